-- Each script that is read keeps the limits.
use Rattle.std.proofs.Common.{◌≡◌, ℕ, suc, ◌≤◌, Bool, true, false, ◌&&◌, cond, List, [], ◌∷◌, length, nat_le, nat_lt, ◌+◌, ◌↔◌, refl, sym, ap, ◌∙◌, arith, ltb-false, le-leb, Result, Ok, Err, Option, Some, None, All, IsTrue, subst, unwrap_or}
use Rattle.std.proofs.lemmas.Bool.{leb-true}
use Rattle.std.specs.List.{list_all, filter_map}
use Rattle.std.proofs.lemmas.List.Elements.{All-nil, All-cons, All-head}
use Rattle.av_perm.specs.Word.{is_word}
use Rattle.av_perm.proofs.Tests.{all_from, all_to}
use Rattle.av_perm.proofs.WordTests.{word_from}
use Rattle.av_union.specs.declared.limits.TheConstants.{MAX_OVERLAY_LENGTH}
use Rattle.av_union.specs.Union.{AreShortTogether}
use Rattle.av_text.specs.declared.kind.Kind.{Kind}
use Rattle.av_text.specs.declared.kind.Kind.TheVariants.{BadWord, LongWord, ManyWords, BadByte, TooLong, BadNumber, Range, SecondBasis, SecondRequire, SecondFormat, LongUnion, SecondUnion}
use Rattle.av_text.specs.declared.queries.Query.{Query}
use Rattle.av_text.specs.declared.says.Says.{Says}
use Rattle.av_text.specs.declared.says.Says.TheVariants.{Nothing, Basis, Unites, Requires, Formats, Asks}
use Rattle.av_text.specs.declared.says.Seen.{Seen}
use Rattle.av_text.specs.declared.heard.UnionLine.{UnionLine}
use Rattle.av_text.specs.declared.script.Script.{Script}
use Rattle.av_text.specs.Steps.{◌>>=◌}
use Rattle.av_perm.specs.declared.limits.TheConstants.{MAX_PATTERN_LENGTH}
use Rattle.av_text.specs.declared.limits.TheConstants.{MAX_SCRIPT_BYTES, MAX_PATTERNS, MAX_FORMAT, DEFAULT_FORMAT}
use Rattle.av_text.specs.Lines.{script_lines, is_allowed, tokens}
use Rattle.av_text.specs.Words.{entries_of, checked_word, word_or_fault, word_in}
use Rattle.std.specs.Str.Parse.{digits_value}
use Rattle.av_text.specs.Numerals.{is_numeral, number_in}
use Rattle.av_text.specs.Queries.{query_of}
use Rattle.av_text.specs.Read.{Fault, patterns, patterns_once, basis_said, union_said, require_said, format_said, is_comment, is_basis, is_union, is_require, is_format, tokens_said, line_said, at_line, basis_in, union_line, is_short, union_words, required_in, format_in, query_in, first_of, unseen, after, lines_said, script_with, script_of, read}
use Rattle.av_text.specs.Ranges.{IsPattern, IsPatternLine, IsFormat, united, KeepsLimits}

-- where steps give a value, so did the first of them
first_gave : {A B E : Type 0} (r : Result A E) (f : A → Result B E) (b : B) → (r >>= f) ≡ Ok b → (a : A) × (r ≡ Ok a) × (f a ≡ Ok b)
first_gave (Ok a) f b e = (a, refl, e)
first_gave (Err k) f b e = cc

-- a word is one, and has at most so many entries
checked_kept : (limit : ℕ) (xs w : List ℕ) → checked_word limit xs ≡ Ok w → (is_word w ≡ true) × (length w ≤ limit)
unfolding checked_word
checked_kept limit xs w e = by (nat_lt limit (length xs)) (is_word xs) refl refl e
  where
    by : (a b : Bool) → nat_lt limit (length xs) ≡ a → is_word xs ≡ b → cond {A = Result (List ℕ) Kind} a (Err LongWord) (cond b (Ok xs) (Err BadWord)) ≡ Ok w → (is_word w ≡ true) × (length w ≤ limit)
    by true b long word f = cc
    by false false long word f = cc
    by false true long word f = let same : xs ≡ w = cc in (sym (ap is_word same) ∙ word, subst (λ ys. length ys ≤ limit) same (ltb-false limit (length xs) long))

-- the word that a token spells
word_kept : (limit : ℕ) (t w : List ℕ) → word_in limit t ≡ Ok w → (is_word w ≡ true) × (length w ≤ limit)
unfolding word_in
word_kept limit t w e = by (entries_of t) e
  where
    by : (o : Option (List ℕ)) → word_or_fault limit o ≡ Ok w → (is_word w ≡ true) × (length w ≤ limit)
    by None f = cc
    by (Some xs) f = checked_kept limit xs w f

-- a word of such a line
pattern_kept : (t w : List ℕ) → word_in MAX_PATTERN_LENGTH t ≡ Ok w → IsPattern w
pattern_kept t w e = let k = word_kept MAX_PATTERN_LENGTH t w e in record { word = word_from w k.0; short = k.1 }

-- such a line has as many words as tokens
patterns_kept : (ts ws : List (List ℕ)) → patterns ts ≡ Ok ws → (length ws ≡ length ts) × All IsPattern ws
unfolding patterns
patterns_kept [] ws e = let same : [] ≡ ws = cc in subst (λ vs. (length vs ≡ 0) × All IsPattern vs) same (refl, All-nil IsPattern)
patterns_kept (t ∷ ts) ws e =
    let first = first_gave (word_in MAX_PATTERN_LENGTH t) (λ w. patterns ts >>= (λ vs. Ok (w ∷ vs))) ws e in
    let more = first_gave (patterns ts) (λ vs. Ok (first.0 ∷ vs)) ws first.2 in
    by first.0 more.0 (pattern_kept t first.0 first.1) (patterns_kept ts more.0 more.1) more.2
  where
    by : (w : List ℕ) (vs : List (List ℕ)) → IsPattern w → (length vs ≡ length ts) × All IsPattern vs → (let r : Result (List (List ℕ)) Kind = Ok (w ∷ vs) in r ≡ Ok ws) → (length ws ≡ suc (length ts)) × All IsPattern ws
    by w vs one all f = let same : w ∷ vs ≡ ws = cc in subst (λ us. (length us ≡ suc (length ts)) × All IsPattern us) same (ap suc all.0, All-cons IsPattern w vs one all.1)

-- a basis line keeps the limits, and no earlier line is one; the same of a union line and of a line of required words
abbrev pub Keeps : Seen → Says → Type 0
Keeps seen (Basis ws) = (seen.basis ≡ false) × IsPatternLine ws
Keeps seen (Unites ws) = (seen.union_with ≡ false) × IsPatternLine ws
Keeps seen (Requires ws) = (seen.require ≡ false) × IsPatternLine ws
Keeps seen (Formats n) = (seen.format ≡ false) × IsFormat n
Keeps seen _ = Unit {0}

-- a number lies in its range
number_kept : (low high : ℕ) (t : List ℕ) (n : ℕ) → number_in low high t ≡ Ok n → (low ≤ n) × (n ≤ high)
unfolding number_in
number_kept low high t n e = by (is_numeral t) (nat_le low v) (nat_le v high) refl refl e
  where
    v : ℕ
    v = digits_value 10 t

    by : (a b d : Bool) → nat_le low v ≡ b → nat_le v high ≡ d → cond {A = Result ℕ Kind} a (cond (b && d) (Ok v) (Err Range)) (Err BadNumber) ≡ Ok n → (low ≤ n) × (n ≤ high)
    by false b d p q f = cc
    by true false d p q f = cc
    by true true false p q f = cc
    by true true true p q f =
        let same : v ≡ n = cc in
        subst (λ m. (low ≤ m) × (m ≤ high)) same (leb-true low v p, leb-true v high q)

-- the words of a line that is no second one
once_kept : (seen : Bool) (second : Kind) (ts ws : List (List ℕ)) → patterns_once seen second ts ≡ Ok ws → (seen ≡ false) × IsPatternLine ws
unfolding patterns_once
once_kept seen second ts ws e = by seen (nat_lt MAX_PATTERNS (length ts)) refl refl e
  where
    by : (a b : Bool) → seen ≡ a → nat_lt MAX_PATTERNS (length ts) ≡ b
        → cond a (Err second) (cond b (Err ManyWords) (patterns ts)) ≡ Ok ws → (seen ≡ false) × IsPatternLine ws
    by true b earlier many f = cc
    by false true earlier many f = cc
    by false false earlier many f =
        let k = patterns_kept ts ws f in
        (earlier, record { few = omega (arith, k.0, ltb-false MAX_PATTERNS (length ts) many); words = k.1 })

-- the basis line
basis_line_kept : (seen : Seen) (ts : List (List ℕ)) (said : Says) → basis_said seen ts ≡ Ok said → Keeps seen said
basis_line_kept seen ts said e =
    let ws = first_gave (patterns_once seen.basis SecondBasis ts) (λ ws. Ok (Basis ws)) said e in
    subst (Keeps seen) (let same : Basis ws.0 ≡ said = cc in same) (once_kept seen.basis SecondBasis ts ws.0 ws.1)

-- the union line
union_line_kept : (seen : Seen) (ts : List (List ℕ)) (said : Says) → union_said seen ts ≡ Ok said → Keeps seen said
union_line_kept seen ts said e =
    let ws = first_gave (patterns_once seen.union_with SecondUnion ts) (λ ws. Ok (Unites ws)) said e in
    subst (Keeps seen) (let same : Unites ws.0 ≡ said = cc in same) (once_kept seen.union_with SecondUnion ts ws.0 ws.1)

-- the line of required words
require_line_kept : (seen : Seen) (ts : List (List ℕ)) (said : Says) → require_said seen ts ≡ Ok said → Keeps seen said
require_line_kept seen ts said e =
    let ws = first_gave (patterns_once seen.require SecondRequire ts) (λ ws. Ok (Requires ws)) said e in
    subst (Keeps seen) (let same : Requires ws.0 ≡ said = cc in same) (once_kept seen.require SecondRequire ts ws.0 ws.1)

-- the format line
format_line_kept : (seen : Seen) (ts : List (List ℕ)) (said : Says) → format_said seen ts ≡ Ok said → Keeps seen said
unfolding format_said
format_line_kept seen [] said e = cc
format_line_kept seen (t ∷ u ∷ ts) said e = cc
format_line_kept seen (t ∷ []) said e = by seen.format refl e
  where
    by : (b : Bool) → seen.format ≡ b → cond b (Err SecondFormat) (number_in 1 MAX_FORMAT t >>= (λ n. Ok (Formats n))) ≡ Ok said → Keeps seen said
    by true earlier f = cc
    by false earlier f =
        let n = first_gave (number_in 1 MAX_FORMAT t) (λ n. Ok (Formats n)) said f in
        subst (Keeps seen) (let same : Formats n.0 ≡ said = cc in same) (earlier, let k = number_kept 1 MAX_FORMAT t n.0 n.1 in record { least = k.0; most = k.1 })

-- any line, by its tokens
tokens_kept : (seen : Seen) (ts : List (List ℕ)) (said : Says) → tokens_said seen ts ≡ Ok said → Keeps seen said
unfolding tokens_said
tokens_kept seen [] said e = subst (Keeps seen) (let same : Nothing ≡ said = cc in same) tt
tokens_kept seen (t ∷ ts) said e = by (is_comment t) (is_basis t) (is_union t) (is_require t) (is_format t) e
  where
    by : (a b u d g : Bool)
        → cond a (Ok Nothing) (cond b (basis_said seen ts) (cond u (union_said seen ts) (cond d (require_said seen ts) (cond g (format_said seen ts) (query_of t ts >>= (λ q. Ok (Asks q))))))) ≡ Ok said
        → Keeps seen said
    by true b u d g f = subst (Keeps seen) (let same : Nothing ≡ said = cc in same) tt
    by false true u d g f = basis_line_kept seen ts said f
    by false false true d g f = union_line_kept seen ts said f
    by false false false true g f = require_line_kept seen ts said f
    by false false false false true f = format_line_kept seen ts said f
    by false false false false false f =
        let q = first_gave (query_of t ts) (λ q. Ok (Asks q)) said f in
        subst (Keeps seen) (let same : Asks q.0 ≡ said = cc in same) tt

-- any line
pub line_kept : (seen : Seen) (line : List ℕ) (said : Says) → line_said seen line ≡ Ok said → Keeps seen said
unfolding line_said
line_kept seen line said e = by (list_all is_allowed line) e
  where
    by : (b : Bool) → cond b (tokens_said seen (tokens line)) (Err BadByte) ≡ Ok said → Keeps seen said
    by true f = tokens_kept seen (tokens line) said f
    by false f = cc

-- the words of the union line: none where there is no such line
abbrev line_words : Option UnionLine → List (List ℕ)
line_words None = []
line_words (Some union) = union.words

-- what the lines say keeps the limits
record KeepsAll (said : List Says) : Type 0 where
  basis : All IsPatternLine (filter_map basis_in said)
  united : (n : ℕ) → IsPatternLine (line_words (union_line n said))
  required : All IsPatternLine (filter_map required_in said)
  format : All IsFormat (filter_map format_in said)

-- what one line more says
kept_cons : (seen : Seen) (said : Says) (more : List Says) → Keeps seen said → KeepsAll more → KeepsAll (said ∷ more)
kept_cons seen Nothing more one all = record { basis = all.basis; united = λ n. all.united (suc n); required = all.required; format = all.format }
kept_cons seen (Basis ws) more one all = record { basis = All-cons IsPatternLine ws (filter_map basis_in more) one.1 all.basis; united = λ n. all.united (suc n); required = all.required; format = all.format }
kept_cons seen (Unites ws) more one all = record { basis = all.basis; united = λ n. one.1; required = all.required; format = all.format }
kept_cons seen (Requires ws) more one all = record { basis = all.basis; united = λ n. all.united (suc n); required = All-cons IsPatternLine ws (filter_map required_in more) one.1 all.required; format = all.format }
kept_cons seen (Formats n) more one all = record { basis = all.basis; united = λ n. all.united (suc n); required = all.required; format = All-cons IsFormat n (filter_map format_in more) one.1 all.format }
kept_cons seen (Asks q) more one all = record { basis = all.basis; united = λ n. all.united (suc n); required = all.required; format = all.format }

-- where a line is not at fault, its number is nothing to it
pub line_gave : (n : ℕ) (r : Result Says Kind) (said : Says) → at_line n r ≡ Ok said → r ≡ Ok said
line_gave n (Ok s) said e = let same : s ≡ said = cc in ap Ok same
line_gave n (Err k) said e = cc

-- no words keep the limits
none_kept : IsPatternLine []
none_kept = record { few = omega arith; words = All-nil IsPattern }

-- all lines
lines_kept : (n : ℕ) (seen : Seen) (ls : List (List ℕ)) (said : List Says) → lines_said n seen ls ≡ Ok said → KeepsAll said
unfolding lines_said
lines_kept n seen [] said e =
    subst KeepsAll (let same : [] ≡ said = cc in same) (record { basis = All-nil _; united = λ n. none_kept; required = All-nil _; format = All-nil _ })
lines_kept n seen (l ∷ ls) said e =
    let first = first_gave (at_line n (line_said seen l)) (λ s. lines_said (suc n) (after seen s) ls >>= (λ more. Ok (s ∷ more))) said e in
    let more = first_gave (lines_said (suc n) (after seen first.0) ls) (λ more. Ok (first.0 ∷ more)) said first.2 in
    let one = line_kept seen l first.0 (line_gave n (line_said seen l) first.0 first.1) in
    let all = lines_kept (suc n) (after seen first.0) ls more.0 more.1 in
    subst KeepsAll (let same : first.0 ∷ more.0 ≡ said = cc in same) (kept_cons seen first.0 more.0 one all)

-- and so do those of the first such line, if there is one
first_kept : (lists : List (List (List ℕ))) → All IsPatternLine lists → IsPatternLine (unwrap_or (first_of lists) [])
first_kept [] all = none_kept
first_kept (ws ∷ lists) all = All-head IsPatternLine ws lists all

-- the format of the first format line, or the default one
format_kept : (formats : List ℕ) → All IsFormat formats → IsFormat (unwrap_or (first_of formats) DEFAULT_FORMAT)
format_kept [] all = record { least = omega arith; most = omega arith }
format_kept (n ∷ formats) all = All-head IsFormat n formats all

-- lists that pass the test are short together
short_from : (F G : List (List ℕ)) → is_short F G ≡ true → AreShortTogether F G
short_from F G e f g i j =
    leb-true (length f + length g) MAX_OVERLAY_LENGTH
    (all_from (λ g. nat_le (length f + length g) MAX_OVERLAY_LENGTH) G (all_from (λ f. list_all (λ g. nat_le (length f + length g) MAX_OVERLAY_LENGTH) G) F e f i) g j)

-- and the other way round
short_to : (F G : List (List ℕ)) → AreShortTogether F G → is_short F G ≡ true
short_to F G h =
    all_to (λ f. list_all (λ g. nat_le (length f + length g) MAX_OVERLAY_LENGTH) G) F
    (λ f i. all_to (λ g. nat_le (length f + length g) MAX_OVERLAY_LENGTH) G (λ g j. le-leb (length f + length g) MAX_OVERLAY_LENGTH (h f g i j)))

-- so what tells whether they are is the test
pub short_tells : (F G : List (List ℕ)) (b : Bool) → IsTrue b ↔ AreShortTogether F G → b ≡ is_short F G
short_tells F G true h = sym (short_to F G (h.0 refl))
short_tells F G false h = by (is_short F G) refl
  where
    by : (t : Bool) → is_short F G ≡ t → false ≡ is_short F G
    by true e = h.1 (short_from F G e) ∙ sym e
    by false e = sym e

-- the words of the union line
union_kept : (basis : List (List ℕ)) (union : Option UnionLine) (other : Option (List (List ℕ))) → union_words basis union ≡ Ok other → IsPatternLine (line_words union)
    → IsPatternLine (unwrap_or other []) × AreShortTogether basis (unwrap_or other [])
unfolding union_words
union_kept basis None other e k =
    subst (λ o. IsPatternLine (unwrap_or o []) × AreShortTogether basis (unwrap_or o [])) (let same : None ≡ other = cc in same) (none_kept, λ f g i j. absurd j)
union_kept basis (Some union) other e k = by (is_short basis union.words) refl e
  where
    by : (b : Bool) → is_short basis union.words ≡ b
        → cond {A = Result (Option (List (List ℕ))) Fault} b (Ok (Some union.words)) (Err (record { line = union.line; kind = LongUnion })) ≡ Ok other
        → IsPatternLine (unwrap_or other []) × AreShortTogether basis (unwrap_or other [])
    by true s f =
        subst (λ o. IsPatternLine (unwrap_or o []) × AreShortTogether basis (unwrap_or o [])) (let same : Some union.words ≡ other = cc in same) (k, short_from basis union.words s)
    by false s f = cc

-- the script of what the lines say
script_kept : (bases requires : List (List (List ℕ))) (union : Option UnionLine) (formats : List ℕ) (queries : List Query) (script : Script)
    → script_with bases union (first_of requires) (first_of formats) queries ≡ Ok script → All IsPatternLine bases → IsPatternLine (line_words union) → All IsPatternLine requires
    → All IsFormat formats → KeepsLimits script
script_kept [] requires union formats queries script e basis united required format = cc
script_kept (first ∷ bases) requires union formats queries script e basis united required format =
    let made : Option (List (List ℕ)) → Script =
    λ other. record { basis = first; union_with = other; require = first_of requires; format = unwrap_or (first_of formats) DEFAULT_FORMAT; queries = queries } in
    let other = first_gave (union_words first union) (λ other. Ok (made other)) script e in
    let both = union_kept first union other.0 other.1 united in
    subst KeepsLimits (let same : made other.0 ≡ script = cc in same) (record {
      basis = All-head IsPatternLine first bases basis;
      second = both.0;
      short = both.1;
      required = first_kept requires required;
      format = format_kept formats format;
    })

-- the script that a text is
pub read_kept : (bytes : List ℕ) (script : Script) → read bytes ≡ Ok script → KeepsLimits script
unfolding read
read_kept bytes script e = by (nat_lt MAX_SCRIPT_BYTES (length bytes)) e
  where
    by : (b : Bool) → cond b (Err (record { line = 0; kind = TooLong })) (lines_said 1 unseen (script_lines bytes) >>= script_of) ≡ Ok script → KeepsLimits script
    by true f = cc
    by false f =
        let said = first_gave (lines_said 1 unseen (script_lines bytes)) script_of script f in
        let all = lines_kept 1 unseen (script_lines bytes) said.0 said.1 in
        script_kept (filter_map basis_in said.0) (filter_map required_in said.0) (union_line 1 said.0) (filter_map format_in said.0) (filter_map query_in said.0) script said.2 all.basis
        (all.united 1) all.required all.format
