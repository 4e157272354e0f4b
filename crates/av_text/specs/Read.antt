-- What a script says, or its fault.
use Rattle.std.specs.Prelude.{ℕ, suc, ◌+◌, Bool, true, false, List, [], ◌∷◌, length, nat_eq, nat_le, nat_lt, if◌then◌else◌, Option, Some, None, unwrap_or, Result, Ok, Err, codes}
use Rattle.std.specs.List.{list_all, filter_map, starts_with}
use Rattle.av_perm.specs.declared.limits.TheConstants.{MAX_PATTERN_LENGTH}
use Rattle.av_perm.specs.Lists.{same}
use Rattle.av_text.specs.declared.kind.Kind.{Kind}
use Rattle.av_text.specs.declared.kind.Kind.TheVariants.{NoBasis, ManyWords, UnknownQuery, TooLong, BadByte, SecondBasis, SecondRequire, SecondFormat, LongUnion, SecondUnion}
use Rattle.av_union.specs.declared.limits.TheConstants.{MAX_OVERLAY_LENGTH}
use Rattle.av_text.specs.declared.queries.Query.{Query}
use Rattle.av_text.specs.declared.limits.TheConstants.{MAX_SCRIPT_BYTES, MAX_PATTERNS, MAX_FORMAT, DEFAULT_FORMAT}
use Rattle.av_text.specs.declared.says.Says.{Says}
use Rattle.av_text.specs.declared.says.Says.TheVariants.{Nothing, Basis, Unites, Requires, Formats, Asks}
use Rattle.av_text.specs.declared.says.Seen.{Seen}
use Rattle.av_text.specs.declared.heard.UnionLine.{UnionLine}
use Rattle.av_text.specs.declared.script.Script.{Script}
use Rattle.av_text.specs.Steps.{◌>>=◌}
use Rattle.av_text.specs.Lines.{script_lines, is_allowed, tokens}
use Rattle.av_text.specs.Numerals.{number_in}
use Rattle.av_text.specs.Words.{word_in}
use Rattle.av_text.specs.Queries.{query_of}

-- the words of a basis line, of a union line, or of a line of required words
unfoldable pub patterns : List (List ℕ) → Result (List (List ℕ)) Kind
patterns [] = Ok []
patterns (t ∷ ts) = do
  w ← word_in MAX_PATTERN_LENGTH t
  ws ← patterns ts
  Ok (w ∷ ws)

-- the same, where an earlier line may have been one, which is a fault of this kind
unfoldable pub patterns_once : Bool → Kind → List (List ℕ) → Result (List (List ℕ)) Kind
patterns_once seen second ts =
    if seen then Err second
    else (if nat_lt MAX_PATTERNS (length ts) then Err ManyWords else patterns ts)

-- what a basis line says, after lines that said what was seen
abbrev pub basis_said : Seen → List (List ℕ) → Result Says Kind
basis_said seen ts = do
  ws ← patterns_once seen.basis SecondBasis ts
  Ok (Basis ws)

-- and a union line
abbrev pub union_said : Seen → List (List ℕ) → Result Says Kind
union_said seen ts = do
  ws ← patterns_once seen.union_with SecondUnion ts
  Ok (Unites ws)

-- and a line of required words
abbrev pub require_said : Seen → List (List ℕ) → Result Says Kind
require_said seen ts = do
  ws ← patterns_once seen.require SecondRequire ts
  Ok (Requires ws)

-- what a format line says, after lines that said what was seen
unfoldable pub format_said : Seen → List (List ℕ) → Result Says Kind
format_said seen (t ∷ []) =
    if seen.format then Err SecondFormat else (do
      n ← number_in 1 MAX_FORMAT t
      Ok (Formats n))
format_said seen _ = Err UnknownQuery

-- a comment's first token begins with `#`
abbrev pub is_comment : List ℕ → Bool
is_comment t = starts_with nat_eq t (codes "#")

-- the first token of a basis line
abbrev pub is_basis : List ℕ → Bool
is_basis t = same t (codes "basis")

-- the first token of a union line
abbrev pub is_union : List ℕ → Bool
is_union t = same t (codes "union")

-- the first token of a line of required words
abbrev pub is_require : List ℕ → Bool
is_require t = same t (codes "require")

-- the first token of a format line
abbrev pub is_format : List ℕ → Bool
is_format t = same t (codes "format")

-- what the tokens of a line say, after lines that said what was seen
unfoldable pub tokens_said : Seen → List (List ℕ) → Result Says Kind
tokens_said seen [] = Ok Nothing
tokens_said seen (t ∷ ts) =
    if is_comment t then Ok Nothing
    else (if is_basis t then basis_said seen ts
    else (if is_union t then union_said seen ts
    else (if is_require t then require_said seen ts
    else (if is_format t then format_said seen ts else (do
      q ← query_of t ts
      Ok (Asks q))))))

-- what a line says, after lines that said what was seen
unfoldable pub line_said : Seen → List ℕ → Result Says Kind
line_said seen line = if list_all is_allowed line then tokens_said seen (tokens line) else Err BadByte

-- the line and the kind of the first fault; line 0 is the text as a whole
pub record Fault : Type 0 where
  pub line : ℕ
  pub kind : Kind

-- what line number n says, or its fault
abbrev pub at_line : ℕ → Result Says Kind → Result Says Fault
at_line n (Ok said) = Ok said
at_line n (Err kind) = Err (record { line = n; kind = kind })

-- the words of the basis, where that is what a line says
abbrev pub basis_in : Says → Option (List (List ℕ))
basis_in (Basis ws) = Some ws
basis_in _ = None

-- the union line that is one of the lines from number n on, where they say this: its number and its words
abbrev pub union_line : ℕ → List Says → Option UnionLine
union_line n [] = None
union_line n (Unites ws ∷ said) = Some (record { line = n; words = ws })
union_line n (_ ∷ said) = union_line (suc n) said

-- the required words, where that is what a line says
abbrev pub required_in : Says → Option (List (List ℕ))
required_in (Requires ws) = Some ws
required_in _ = None

-- the format, where that is what a line says
abbrev pub format_in : Says → Option ℕ
format_in (Formats n) = Some n
format_in _ = None

-- the query, where a line asks one
abbrev pub query_in : Says → Option Query
query_in (Asks q) = Some q
query_in _ = None

-- nothing was seen before the first line
abbrev pub unseen : Seen
unseen = record { basis = false; union_with = false; require = false; format = false }

-- what was seen after one line more
abbrev pub after : Seen → Says → Seen
after seen (Basis ws) = record { basis = true; union_with = seen.union_with; require = seen.require; format = seen.format }
after seen (Unites ws) = record { basis = seen.basis; union_with = true; require = seen.require; format = seen.format }
after seen (Requires ws) = record { basis = seen.basis; union_with = seen.union_with; require = true; format = seen.format }
after seen (Formats n) = record { basis = seen.basis; union_with = seen.union_with; require = seen.require; format = true }
after seen _ = seen

-- what the lines from number n on say, after lines that said what was seen; or the fault of the first line that has one
unfoldable pub lines_said : ℕ → Seen → List (List ℕ) → Result (List Says) Fault
lines_said n seen [] = Ok []
lines_said n seen (l ∷ ls) = do
  said ← at_line n (line_said seen l)
  more ← lines_said (suc n) (after seen said) ls
  Ok (said ∷ more)

-- the first of a list, where it has one
abbrev pub first_of : {A : Type 0} → List A → Option A
first_of [] = None
first_of (x ∷ _) = Some x

-- whether each word of the one list and each of the other have together at most as many entries as an overlay: where neither
-- list is empty, so the longest ones have
abbrev pub is_short : List (List ℕ) → List (List ℕ) → Bool
is_short first second = list_all (λ f. list_all (λ g. nat_le (length f + length g) MAX_OVERLAY_LENGTH) second) first

-- the words of the union line, where there is one, or its fault where some are too long together with some of the basis
unfoldable pub union_words : List (List ℕ) → Option UnionLine → Result (Option (List (List ℕ))) Fault
union_words basis None = Ok None
union_words basis (Some union) = if is_short basis union.words then Ok (Some union.words) else Err (record { line = union.line; kind = LongUnion })

-- the script with the basis of the basis line, the union line, the required words and the format of their lines, where there are
-- such, and these queries
abbrev pub script_with : List (List (List ℕ)) → Option UnionLine → Option (List (List ℕ)) → Option ℕ → List Query → Result Script Fault
script_with [] union required format queries = Err (record { line = 0; kind = NoBasis })
script_with (basis ∷ _) union required format queries = do
  other ← union_words basis union
  Ok (record { basis = basis; union_with = other; require = required; format = unwrap_or format DEFAULT_FORMAT; queries = queries })

-- the script whose lines say this
abbrev pub script_of : List Says → Result Script Fault
script_of said = script_with (filter_map basis_in said) (union_line 1 said) (first_of (filter_map required_in said)) (first_of (filter_map format_in said)) (filter_map query_in said)

-- the script that a text is, or its fault
unfoldable pub read : List ℕ → Result Script Fault
read bytes =
    if nat_lt MAX_SCRIPT_BYTES (length bytes) then Err (record { line = 0; kind = TooLong })
    else (do
      said ← lines_said 1 unseen (script_lines bytes)
      script_of said)
