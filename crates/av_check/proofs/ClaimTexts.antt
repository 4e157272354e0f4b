-- The text of a claim is that claim.
use Rattle.std.proofs.Common.{◌≡◌, inl, inr, ℕ, suc, ◌+◌, ◌-◌, ◌≤◌, ◌≢◌, Bool, true, false, ◌&&◌, ◌==◌, List, [], ◌∷◌, ◌++◌, length, map, take, get_or, Option, Some, None, All, codes, nat_le, cond, refl, sym, ap, subst, ◌∙◌, append_assoc, append-nil, arith, true≢false, ne_eqb}
use Rattle.std.specs.List.{list_all, slice_split, join_with_byte}
use Rattle.std.specs.Str.Lines.{strip_carriage_return}
use Rattle.std.proofs.lemmas.Bool.{and_parts}
use Rattle.std.proofs.lemmas.Bool.Decides.{nat_tests}
use Rattle.std.proofs.lemmas.List.{length-append}
use Rattle.std.proofs.lemmas.List.Elements.{All-nil, All-cons}
use Rattle.std.proofs.lemmas.List.Folds.{list_all_at}
use Rattle.std.proofs.lemmas.List.Splits.{slice_split_at, length-slice_split}
use Rattle.std.proofs.Math.Seq.{take-append-add}
use Rattle.av_perm.specs.Members.{In}
use Rattle.av_sys.specs.declared.terms.Equation.{Equation}
use Rattle.av_text.specs.declared.limits.TheConstants.{MAX_PATTERNS}
use Rattle.av_text.specs.Lines.{script_lines, drop_empty_last, is_line_feed}
use Rattle.av_text.proofs.Cuts.{kept_piece}
use Rattle.av_print.specs.Text.{words_text}
use Rattle.av_print.specs.Systems.{equation_text, equations_text, terms_count, system_text}
use Rattle.av_print.proofs.Tokens.{pass_wider, pass_none, is_token_byte, pass_both}
use Rattle.av_check.specs.declared.reading.announced.Counts.{Counts}
use Rattle.av_check.specs.Claims.{HasText, BeginsWith, IsOptional, ArePatterns, TellsWords, TellsRequired, AreEquationLines}
use Rattle.av_check.specs.ClaimLaws.{version_text, passed_text, required_text, text_of_claim, IsUnbroken, ClaimTextLaw}
use Rattle.av_check.specs.Reading.{IsVersion, list_tokens, equation_tokens, counts_tokens, counts_line}
use Rattle.av_check.specs.Verdicts.{words_or_none}
use Rattle.av_check.proofs.Joins.{Pass}
use Rattle.av_check.proofs.TokenLines.{list_pass, equation_pass, counts_pass, equation_joined, counts_joined, words_joined}

-- bytes before a line feed are a line
line_cut : (l rest : List ℕ) → All (λ c. is_line_feed c ≡ false) l → script_lines (l ++ 10 ∷ rest) ≡ strip_carriage_return l ∷ script_lines rest
unfolding script_lines
line_cut l rest none =
    ap (λ ps. map strip_carriage_return (drop_empty_last ps)) (slice_split_at is_line_feed l 10 rest none refl)
    ∙ ap (map strip_carriage_return) (kept_piece l (slice_split is_line_feed rest) (omega (arith, length-slice_split is_line_feed rest)))

-- the text is that of these lines, whatever follows
abbrev Writes : List (List ℕ) → List ℕ → Type 0
Writes lines text = (rest : List ℕ) → script_lines (text ++ rest) ≡ lines ++ script_lines rest

writes_none : Writes [] []
writes_none rest = refl

writes_both : (ls ms : List (List ℕ)) (s t : List ℕ) → Writes ls s → Writes ms t → Writes (ls ++ ms) (s ++ t)
writes_both ls ms s t p q rest =
    ap script_lines (append_assoc s t rest) ∙ p (t ++ rest) ∙ ap (λ (l : List (List ℕ)). ls ++ l) (q rest) ∙ sym (append_assoc ls ms (script_lines rest))

-- a byte of a line that is read
abbrev is_line_byte : ℕ → Bool
is_line_byte c = nat_le 32 c && nat_le c 126

line_no_feed : (c : ℕ) → is_line_byte c ≡ true → is_line_feed c ≡ false
line_no_feed c e = grind (arith, nat_tests)

line_no_return : (c : ℕ) → is_line_byte c ≡ true → (c == 13) ≡ false
line_no_return c e = grind (arith, nat_tests)

token_in_line : (c : ℕ) → is_token_byte c ≡ true → is_line_byte c ≡ true
token_in_line c e = grind (arith, nat_tests)

-- such a line keeps its last byte
last_kept : (l : List ℕ) → list_all is_line_byte l ≡ true → strip_carriage_return l ≡ l
last_kept [] e = refl
last_kept (x ∷ xs) e = by (is_line_byte (get_or (x ∷ xs) (length (x ∷ xs) - 1) 0)) refl
  where
    by : (t : Bool) → is_line_byte (get_or (x ∷ xs) (length (x ∷ xs) - 1) 0) ≡ t → strip_carriage_return (x ∷ xs) ≡ x ∷ xs
    by true f = ap (λ b. cond b (take (length (x ∷ xs) - 1) (x ∷ xs)) (x ∷ xs)) (line_no_return (get_or (x ∷ xs) (length (x ∷ xs) - 1) 0) f)
    by false f = absurd (true≢false (sym e ∙ list_all_at is_line_byte (x ∷ xs) (length (x ∷ xs) - 1) 0 (omega arith) f))

-- a line that is read, by its text
writes_line : (l text : List ℕ) → HasText l text → list_all is_line_byte l ≡ true → Writes (l ∷ []) text
writes_line l text t e rest =
    ap (λ (s : List ℕ). script_lines (s ++ rest)) (sym t) ∙ ap script_lines (append_assoc l (codes "\n") rest)
    ∙ line_cut l rest (pass_none is_line_byte is_line_feed line_no_feed l e) ∙ ap (λ (k : List ℕ). k ∷ script_lines rest) (last_kept l e)

-- tokens that are joined make such a line
joined_in_line : (ts : List (List ℕ)) → Pass is_token_byte ts → list_all is_line_byte (join_with_byte 32 ts) ≡ true
joined_in_line [] p = refl
joined_in_line (t ∷ []) p = pass_wider is_token_byte is_line_byte token_in_line t (p t (inl refl))
joined_in_line (t ∷ u ∷ ts) p =
    pass_both is_line_byte t (32 ∷ join_with_byte 32 (u ∷ ts)) (pass_wider is_token_byte is_line_byte token_in_line t (p t (inl refl)))
    (joined_in_line (u ∷ ts) (λ s i. p s (inr i)))

-- a line that is passed over keeps what it begins with
strip_begins : (front rest : List ℕ) → strip_carriage_return front ≡ front → BeginsWith front (strip_carriage_return (front ++ rest))
strip_begins front [] kept = ([], ap strip_carriage_return (append-nil front) ∙ kept ∙ sym (append-nil front))
strip_begins front (c ∷ cs) kept = by (get_or (front ++ c ∷ cs) (length (front ++ c ∷ cs) - 1) 0 == 13)
  where
    by : (b : Bool) → BeginsWith front (cond b (take (length (front ++ c ∷ cs) - 1) (front ++ c ∷ cs)) (front ++ c ∷ cs))
    by false = (c ∷ cs, refl)
    by true =
        let many : length (front ++ c ∷ cs) - 1 ≡ length front + length cs = omega (arith, length-append front (c ∷ cs)) in
        (take (length cs) (c ∷ cs), ap (λ n. take n (front ++ c ∷ cs)) many ∙ take-append-add front (c ∷ cs) (length cs))

-- such a line, where it is there
no_feed : (rest : List ℕ) → ((b : ℕ) → In b rest → b ≢ 10) → All (λ c. is_line_feed c ≡ false) rest
no_feed [] u = All-nil (λ c. is_line_feed c ≡ false)
no_feed (c ∷ cs) u = All-cons (λ c. is_line_feed c ≡ false) c cs (ne_eqb c 10 (u c (inl refl))) (no_feed cs (λ b i. u b (inr i)))

front_no_feed : (front rest : List ℕ) → list_all is_line_byte front ≡ true → All (λ c. is_line_feed c ≡ false) rest → All (λ c. is_line_feed c ≡ false) (front ++ rest)
front_no_feed [] rest e none = none
front_no_feed (c ∷ front) rest e none =
    let p = and_parts (is_line_byte c) (list_all is_line_byte front) e in
    All-cons (λ c. is_line_feed c ≡ false) c (front ++ rest) (line_no_feed c p.0) (front_no_feed front rest p.1 none)

-- the lines that a text of such a line writes
record HasPassed (front text : List ℕ) : Type 0 where
  lines : List (List ℕ)
  writes : Writes lines text
  is : IsOptional (BeginsWith front) lines

passed_lines : (front : List ℕ) (shown : Option (List ℕ)) → list_all is_line_byte front ≡ true → IsUnbroken shown → HasPassed front (passed_text front shown)
passed_lines front None e u = record { lines = []; writes = writes_none; is = tt }
passed_lines front (Some rest) e u = record {
  lines = strip_carriage_return (front ++ rest) ∷ [];
  writes = λ more.
      ap script_lines (regroup front rest more) ∙ line_cut (front ++ rest) more (front_no_feed front rest e (no_feed rest u));
  is = strip_begins front rest (last_kept front e);
}
  where
    regroup : (f r m : List ℕ) → (f ++ (r ++ codes "\n")) ++ m ≡ (f ++ r) ++ 10 ∷ m
    regroup f r m = simp append_assoc

-- the version line
record HasVersion (text : List ℕ) : Type 0 where
  lines : List (List ℕ)
  writes : Writes lines text
  is : IsOptional IsVersion lines

version_lines : (b : Bool) → HasVersion (version_text b)
version_lines false = record { lines = []; writes = writes_none; is = tt }
version_lines true = record { lines = codes "permspec 1" ∷ []; writes = writes_line (codes "permspec 1") (codes "permspec 1\n") refl refl; is = refl }

-- a line of a key and a list of words
words_line : List ℕ → List (List ℕ) → List ℕ
words_line key ws = join_with_byte 32 (key ∷ list_tokens ws)

words_writes : (key : List ℕ) (ws : List (List ℕ)) → list_all is_token_byte key ≡ true → Writes (words_line key ws ∷ []) (key ++ (codes " " ++ (words_text ws ++ codes "\n")))
unfolding words_line
words_writes key ws e = writes_line (words_line key ws) _ (words_joined key ws) (joined_in_line (key ∷ list_tokens ws) pass)
  where
    pass : Pass is_token_byte (key ∷ list_tokens ws)
    pass t (inl f) = subst (λ (u : List ℕ). list_all is_token_byte u ≡ true) (sym f) e
    pass t (inr i) = list_pass ws t i

words_tell : (key : List ℕ) (ws : List (List ℕ)) → length ws ≤ MAX_PATTERNS → ArePatterns ws → TellsWords key ws (words_line key ws)
unfolding words_line
words_tell key ws few p = record { text = words_joined key ws; few = few; patterns = p }

-- the line of the required words, where it is there
record HasRequired (needed : Option (List (List ℕ))) : Type 0 where
  lines : List (List ℕ)
  writes : Writes lines (required_text needed)
  is : TellsRequired needed lines

required_lines : (needed : Option (List (List ℕ))) → length (words_or_none needed) ≤ MAX_PATTERNS → ArePatterns (words_or_none needed) → HasRequired needed
required_lines None few p = record { lines = []; writes = writes_none; is = tt }
required_lines (Some ws) few p = record {
  lines = words_line (codes "require") ws ∷ [];
  writes = words_writes (codes "require") ws refl;
  is = words_tell (codes "require") ws few p;
}

-- the lines of equations
record HasEquations (u : ℕ) (es : List Equation) : Type 0 where
  lines : List (List ℕ)
  writes : Writes lines (equations_text u es)
  are : AreEquationLines u es lines

equation_lines : (u : ℕ) (es : List Equation) → HasEquations u es
unfolding equations_text
equation_lines u [] = record { lines = []; writes = writes_none; are = tt }
equation_lines u (e ∷ es) =
    let more = equation_lines (suc u) es in
    record {
      lines = join_with_byte 32 (equation_tokens u e) ∷ more.lines;
      writes = writes_both (join_with_byte 32 (equation_tokens u e) ∷ []) more.lines (equation_text u e) (equations_text (suc u) es)
          (writes_line (join_with_byte 32 (equation_tokens u e)) (equation_text u e) (equation_joined u e) (joined_in_line (equation_tokens u e) (equation_pass u e))) more.writes;
      are = (equation_joined u e, more.are);
    }

-- the whole text, in parts
group_claim : (a b k w n r s g c e f o : List ℕ)
    → (a ++ (b ++ (k ++ (w ++ (n ++ (r ++ (s ++ (g ++ (c ++ (e ++ f)))))))))) ++ o ≡ (a ++ (b ++ ((k ++ (w ++ n)) ++ r))) ++ ((s ++ (g ++ (c ++ e))) ++ (f ++ o))
group_claim a b k w n r s g c e f o = simp append_assoc

writes_claim : (first system : List (List ℕ)) (s t others : List ℕ) → Writes first s → Writes system t
    → script_lines (s ++ (t ++ (codes "end\n" ++ others))) ≡ (first ++ system) ++ codes "end" ∷ script_lines others
writes_claim first system s t others p q =
    p (t ++ (codes "end\n" ++ others))
    ∙ ap (λ (l : List (List ℕ)). first ++ l)
    (q (codes "end\n" ++ others) ∙ ap (λ (l : List (List ℕ)). system ++ l) (writes_line (codes "end") (codes "end\n") refl refl others))
    ∙ sym (append_assoc first system (codes "end" ∷ script_lines others))

pub claim_text_law : ClaimTextLaw
unfolding text_of_claim system_text
claim_text_law version shown claim others known is within short = record {
  short = short;
  front = (v.lines ++ (u.lines ++ (basis ∷ r.lines))) ++ (s.lines ++ (g.lines ++ (counts ∷ e.lines)));
  others = script_lines others;
  lines =
      ap script_lines
      (group_claim (version_text shown.version) (passed_text (codes "union ") shown.union) (codes "basis ") (words_text claim.basis) (codes "\n") (required_text claim.require)
      (passed_text (codes "simples ") shown.simples) (passed_text (codes "gap ") shown.gap) (counts_line numbers) (equations_text 0 claim.system.equations) (codes "end\n") others)
      ∙ writes_claim _ _ _ _ others first system;
  told = record {
    first = v.lines ++ (u.lines ++ (basis ∷ r.lines));
    others = s.lines ++ (g.lines ++ (counts ∷ e.lines));
    in_order = refl;
    are_first = record {
      version = v.lines;
      union = u.lines;
      basis = basis;
      require = r.lines;
      in_order = refl;
      is_version = v.is;
      is_union = u.is;
      is_basis = words_tell (codes "basis") claim.basis within.few_words within.basis_words;
      is_require = r.is;
    };
    are_others = record {
      simples = s.lines;
      gap = g.lines;
      counts = counts;
      equations = e.lines;
      in_order = refl;
      is_simples = s.is;
      is_gap = g.is;
      are_counts = record { version = version; known = known; some = within.formed.some; few = within.small; text = counts_joined numbers };
      are_equations = e.are;
      formed = within.formed;
      named = within.named;
    };
  };
}
  where
    v : HasVersion (version_text shown.version)
    v = version_lines shown.version

    u : HasPassed (codes "union ") (passed_text (codes "union ") shown.union)
    u = passed_lines (codes "union ") shown.union refl is.in_union

    basis : List ℕ
    basis = words_line (codes "basis") claim.basis

    r : HasRequired claim.require
    r = required_lines claim.require within.few_required within.words_required

    s : HasPassed (codes "simples ") (passed_text (codes "simples ") shown.simples)
    s = passed_lines (codes "simples ") shown.simples refl is.in_simples

    g : HasPassed (codes "gap ") (passed_text (codes "gap ") shown.gap)
    g = passed_lines (codes "gap ") shown.gap refl is.in_gap

    numbers : Counts
    numbers = record { version = version; equations = length claim.system.equations; terms = terms_count claim.system.equations }

    counts : List ℕ
    counts = join_with_byte 32 (counts_tokens numbers)

    e : HasEquations 0 claim.system.equations
    e = equation_lines 0 claim.system.equations

    first : Writes (v.lines ++ (u.lines ++ (basis ∷ r.lines)))
        (version_text shown.version ++ (passed_text (codes "union ") shown.union ++ ((codes "basis " ++ (words_text claim.basis ++ codes "\n")) ++ required_text claim.require)))
    first =
        writes_both v.lines (u.lines ++ (basis ∷ r.lines)) (version_text shown.version) _ v.writes
        (writes_both u.lines (basis ∷ r.lines) (passed_text (codes "union ") shown.union) _ u.writes
        (writes_both (basis ∷ []) r.lines (codes "basis " ++ (words_text claim.basis ++ codes "\n")) (required_text claim.require) (words_writes (codes "basis") claim.basis refl) r.writes))

    system : Writes (s.lines ++ (g.lines ++ (counts ∷ e.lines)))
        (passed_text (codes "simples ") shown.simples ++ (passed_text (codes "gap ") shown.gap ++ (counts_line numbers ++ equations_text 0 claim.system.equations)))
    system =
        writes_both s.lines (g.lines ++ (counts ∷ e.lines)) (passed_text (codes "simples ") shown.simples) _ s.writes
        (writes_both g.lines (counts ∷ e.lines) (passed_text (codes "gap ") shown.gap) _ g.writes
        (writes_both (counts ∷ []) e.lines (counts_line numbers) (equations_text 0 claim.system.equations)
        (writes_line counts (counts_line numbers) (counts_joined numbers) (joined_in_line (counts_tokens numbers) (counts_pass numbers))) e.writes))
