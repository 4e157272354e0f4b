-- The lines of a script, read one after another.
use Rattle.std.proofs.Common.{◌≡◌, ℕ, suc, ◌+◌, ◌<◌, ◌≤◌, false, List, [], ◌∷◌, ◌++◌, length, refl, sym, ap, ◌∙◌, Result, Ok, Err, Option, Some, None, append_assoc, append-nil, lt-ltb, is_some, option_to_list, add-one, true≢false, arith}
use Rattle.std.proofs.lemmas.Bool.{le-ltb}
use Rattle.std.specs.List.{filter_map}
use Rattle.av_text.specs.declared.kind.Kind.TheVariants.{TooLong}
use Rattle.av_text.specs.declared.limits.TheConstants.{MAX_SCRIPT_BYTES}
use Rattle.av_text.specs.declared.heard.Heard.{Heard}
use Rattle.av_text.specs.declared.heard.UnionLine.{UnionLine}
use Rattle.av_text.specs.declared.queries.Query.{Query}
use Rattle.av_text.specs.declared.says.Says.{Says}
use Rattle.av_text.specs.declared.says.Says.TheVariants.{Nothing, Basis, Unites, Requires, Formats, Asks}
use Rattle.av_text.specs.declared.says.Seen.{Seen}
use Rattle.av_text.specs.declared.script.Script.{Script}
use Rattle.av_text.specs.declared.script.ScriptError.{ScriptError}
use Rattle.av_text.specs.declared.script.ScriptError.TheVariants as error
use Rattle.av_text.specs.Steps.{◌>>=◌}
use Rattle.av_text.specs.Lines.{script_lines}
use Rattle.av_text.specs.Read.{Fault, after, read, lines_said, line_said, at_line, basis_in, union_line, required_in, format_in, query_in, first_of, script_with}
use Rattle.av_text.specs.Heard.{unheard, noted, seen_of, script_said}
use Rattle.av_text.specs.Results.{GivesScript}
use Rattle.av_text.proofs.Kept.{Keeps, line_kept, line_gave}

-- the first of two union lines, where there is one
abbrev pub line_or : Option UnionLine → Option UnionLine → Option UnionLine
line_or None union = union
line_or (Some first) union = Some first

-- the script of a text whose earlier lines said what was heard, and whose other lines, from number n on, say the rest
abbrev pub script_after : ℕ → Heard → Result (List Says) Fault → Result Script Fault
script_after n heard rest =
    rest >>= (λ said.
    script_with (option_to_list heard.basis ++ filter_map basis_in said) (line_or heard.union_with (union_line n said))
    (first_of (option_to_list heard.require ++ filter_map required_in said)) (first_of (option_to_list heard.format ++ filter_map format_in said))
    (heard.queries ++ filter_map query_in said))

-- the same, where the other lines are these
abbrev pub read_on : ℕ → Heard → List (List ℕ) → Result Script Fault
read_on n heard lines = script_after n heard (lines_said n (seen_of heard) lines)

-- a text that is too long
pub read_long : (bs : List ℕ) → MAX_SCRIPT_BYTES < length bs → read bs ≡ Err (record { line = 0; kind = TooLong })
unfolding read
read_long bs h = rw (lt-ltb MAX_SCRIPT_BYTES (length bs) h) refl

-- a text that isn't
pub read_short : (bs : List ℕ) → length bs ≤ MAX_SCRIPT_BYTES → read_on 1 unheard (script_lines bs) ≡ read bs
unfolding read
read_short bs h = rw (le-ltb MAX_SCRIPT_BYTES (length bs) h) refl

-- what no line said before isn't there
unsaid : {A : Type 0} (o : Option A) → is_some o ≡ false → o ≡ None
unsaid None e = refl
unsaid (Some a) e = absurd (true≢false e)

-- a line is noted: one of a kind that may stand once is the first of its kind
after_line : (n : ℕ) (heard : Heard) (said : Says) (r : Result (List Says) Fault) → Keeps (seen_of heard) said
    → script_after n heard (r >>= (λ more. Ok (said ∷ more))) ≡ script_after (suc n) (noted n heard said) r
after_line n heard said (Err fault) k = refl
after_line n heard Nothing (Ok more) k = refl
after_line n heard (Basis ws) (Ok more) k = rw (unsaid heard.basis k.0) refl
after_line n heard (Unites ws) (Ok more) k = rw (unsaid heard.union_with k.0) refl
after_line n heard (Requires ws) (Ok more) k = rw (unsaid heard.require k.0) refl
after_line n heard (Formats m) (Ok more) k = rw (unsaid heard.format k.0) refl
after_line n heard (Asks q) (Ok more) k =
    ap (script_with (option_to_list heard.basis ++ filter_map basis_in more) (line_or heard.union_with (union_line (suc n) more))
    (first_of (option_to_list heard.require ++ filter_map required_in more)) (first_of (option_to_list heard.format ++ filter_map format_in more)))
    (sym (append_assoc heard.queries (q ∷ []) (filter_map query_in more)))

-- what was seen once a line is noted
seen_line : (n : ℕ) (heard : Heard) (said : Says) → after (seen_of heard) said ≡ seen_of (noted n heard said)
seen_line n heard said = grind arith

-- a line that isn't at fault: what it says is noted, and the script is that of the other lines
read_line : (n : ℕ) (heard : Heard) (l : List ℕ) (ls : List (List ℕ)) (said : Says) → at_line n (line_said (seen_of heard) l) ≡ Ok said
    → read_on n heard (l ∷ ls) ≡ read_on (n + 1) (noted n heard said) ls
unfolding lines_said
read_line n heard l ls said e =
    let k = line_kept (seen_of heard) l said (line_gave n (line_said (seen_of heard) l) said e) in
    rw (e, add-one n, seen_line n heard said) (after_line n heard said (lines_said (suc n) (seen_of (noted n heard said)) ls) k)

-- a line that is at fault
read_fault : (n : ℕ) (heard : Heard) (l : List ℕ) (ls : List (List ℕ)) (fault : Fault) → at_line n (line_said (seen_of heard) l) ≡ Err fault
    → read_on n heard (l ∷ ls) ≡ Err fault
unfolding lines_said
read_fault n heard l ls fault e = rw e refl

-- the first of what there is and nothing more
first_alone : {A : Type 0} (o : Option A) → first_of (option_to_list o ++ []) ≡ o
first_alone None = refl
first_alone (Some a) = refl

-- the same of union lines
line_alone : (o : Option UnionLine) → line_or o None ≡ o
line_alone None = refl
line_alone (Some union) = refl

-- no line is left
read_end : (n : ℕ) (heard : Heard) → read_on n heard [] ≡ script_said heard
unfolding lines_said
read_end n heard = rw (append-nil (option_to_list heard.basis), line_alone heard.union_with, append-nil heard.queries, first_alone heard.require, first_alone heard.format) refl

-- a loop over the lines keeps the script r
moved : (n : ℕ) (heard : Heard) (lines : List (List ℕ)) (l : List ℕ) (ls : List (List ℕ)) (next r : Result Script Fault)
    → lines ≡ l ∷ ls → read_on n heard (l ∷ ls) ≡ next → read_on n heard lines ≡ r → next ≡ r
moved n heard lines l ls next r cut step kept = sym step ∙ ap (read_on n heard) (sym cut) ∙ kept

-- a turn of the loop: the line is cut off, and what it says is noted
pub turn : (n : ℕ) (heard next : Heard) (lines : List (List ℕ)) (l : List ℕ) (ls : List (List ℕ)) (seen : Seen) (said : Says) (r : Result Script Fault)
    → lines ≡ l ∷ ls → seen ≡ seen_of heard → at_line n (line_said seen l) ≡ Ok said → next ≡ noted n heard said
    → read_on n heard lines ≡ r → read_on (n + 1) next ls ≡ r
turn n heard next lines l ls seen said r cut s e noting kept =
    ap (λ h. read_on (n + 1) h ls) noting
    ∙ moved n heard lines l ls _ r cut (read_line n heard l ls said (ap (λ x. at_line n (line_said x l)) (sym s) ∙ e)) kept

-- the exit at a line that isn't read
pub exit_line : (n : ℕ) (heard : Heard) (lines : List (List ℕ)) (l : List ℕ) (ls : List (List ℕ)) (seen : Seen) (e : ScriptError) (r : Result Script Fault)
    → lines ≡ l ∷ ls → seen ≡ seen_of heard → GivesScript {A = Says} (Err e) (at_line n (line_said seen l))
    → read_on n heard lines ≡ r → GivesScript {A = Script} (Err e) r
exit_line n heard lines l ls seen error.Memory r cut s e kept = tt
exit_line n heard lines l ls seen (error.Refused line kind) r cut s e kept =
    sym (moved n heard lines l ls _ r cut (read_fault n heard l ls _ (ap (λ x. at_line n (line_said x l)) (sym s) ∙ e)) kept)

-- the exit at the end of the text
pub exit_end : (n : ℕ) (heard : Heard) (lines : List (List ℕ)) (r : Result Script Fault) → lines ≡ [] → read_on n heard lines ≡ r → script_said heard ≡ r
exit_end n heard lines r cut kept = sym (read_end n heard) ∙ ap (read_on n heard) (sym cut) ∙ kept
