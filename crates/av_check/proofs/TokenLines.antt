-- A line cut at spaces has the tokens of a value exactly where it is the text of the value.
use Rattle.std.proofs.Common.{◌≡◌, inl, inr, ℕ, ◌<◌, true, ◌==◌, List, [], ◌∷◌, ◌++◌, map, length, codes, decimal, refl, sym, ap, ap₂, subst, ◌∙◌, append_assoc, append-nil, arith}
use Rattle.std.specs.Char.{is_ascii_digit}
use Rattle.std.specs.List.{list_all, join_by, slice_split, join_with_byte}
use Rattle.std.proofs.lemmas.Bool.Decides.{nat_tests}
use Rattle.std.proofs.lemmas.List.{append_cancel_right, length-append}
use Rattle.av_perm.proofs.Membership.{In_append_cases, In_map}
use Rattle.av_sys.specs.declared.names.Sign.{Sign}
use Rattle.av_sys.specs.declared.names.Sign.TheVariants.{C, P, M}
use Rattle.av_sys.specs.declared.terms.Term.{Term}
use Rattle.av_sys.specs.declared.terms.Term.TheVariants.{Point, Node}
use Rattle.av_sys.specs.declared.terms.Equation.{Equation}
use Rattle.av_print.specs.Text.{word_text, words_text, root_text}
use Rattle.av_print.specs.Systems.{number_text, children_text, term_text, terms_text, sign_text, name_text, equation_text, counts_text}
use Rattle.av_print.proofs.Tokens.{pass_wider, is_token_byte, pass_both}
use Rattle.av_print.proofs.NumberTokens.{numeral_digits, digit_in_token}
use Rattle.av_check.specs.declared.reading.announced.Counts.{Counts}
use Rattle.av_check.specs.Reading.{list_tokens, barred_tokens, terms_tokens, made_tokens, named_tokens, equation_tokens, counts_tokens, counts_line, IsEquationOf, IsFewPatterns, AreCounts}
use Rattle.av_check.proofs.Joins.{Pass, join_before, join_append, pieces_joined, is_other, joined_pieces}
use Rattle.av_check.proofs.Lists.{list_some, list_joined}
use Rattle.av_check.proofs.ReadAs.{SameReadings}
use Rattle.av_check.proofs.Terms.{number_pass, word_pass, root_pass, children_pass}

-- tokens of two lists
pass_append : (ts us : List (List ℕ)) → Pass is_token_byte ts → Pass is_token_byte us → Pass is_token_byte (ts ++ us)
pass_append ts us p q t i = elim (In_append_cases ts us t i) [ inl a ↦ p t a | inr b ↦ q t b ]

pass_cons : (t : List ℕ) (ts : List (List ℕ)) → list_all is_token_byte t ≡ true → Pass is_token_byte ts → Pass is_token_byte (t ∷ ts)
pass_cons t ts e p s (inl f) = subst (λ (u : List ℕ). list_all is_token_byte u ≡ true) (sym f) e
pass_cons t ts e p s (inr i) = p s i

pass_nil : Pass is_token_byte []
pass_nil t i = absurd i

-- the tokens of a list of words have no space
pub list_pass : (ws : List (List ℕ)) → Pass is_token_byte (list_tokens ws)
list_pass [] = pass_cons (codes "none") [] refl pass_nil
list_pass (w ∷ ws) = pass_cons (word_text w) (map word_text ws) (word w) others
  where
    word : (v : List ℕ) → list_all is_token_byte (word_text v) ≡ true
    word v = word_pass is_token_byte digit_in_token refl v

    others : Pass is_token_byte (map word_text ws)
    others t i = let m = In_map word_text ws t i in subst (λ (u : List ℕ). list_all is_token_byte u ≡ true) (sym m.2) (word m.0)

-- nor have those of terms
term_pass : (t : Term) → list_all is_token_byte (term_text t) ≡ true
unfolding term_text
term_pass Point = refl
term_pass (Node r cs) =
    pass_both is_token_byte (root_text r) (codes "[" ++ (children_text cs ++ codes "]")) (root_pass is_token_byte digit_in_token refl refl refl r)
    (pass_both is_token_byte (children_text cs) (codes "]") (children_pass is_token_byte digit_in_token refl refl cs) refl)

barred_pass : (t : Term) (ts : List Term) → Pass is_token_byte (barred_tokens (t ∷ ts))
barred_pass t [] = pass_cons (term_text t) [] (term_pass t) pass_nil
barred_pass t (s ∷ ts) =
    pass_cons (term_text t) (codes "|" ∷ barred_tokens (s ∷ ts)) (term_pass t)
    (pass_cons (codes "|") (barred_tokens (s ∷ ts)) refl (barred_pass s ts))

terms_pass : (ts : List Term) → Pass is_token_byte (terms_tokens ts)
terms_pass [] = pass_cons (codes "none") [] refl pass_nil
terms_pass (t ∷ ts) = barred_pass t ts

-- nor have those of an equation
sign_pass : (s : Sign) → list_all is_token_byte (sign_text s) ≡ true
sign_pass C = refl
sign_pass P = refl
sign_pass M = refl

made_pass : (e : Equation) → Pass is_token_byte (made_tokens e)
made_pass e = pass_append (list_tokens e.name.require) _ (list_pass e.name.require) (pass_cons (codes "=") _ refl (terms_pass e.terms))

pub equation_pass : (u : ℕ) (e : Equation) → Pass is_token_byte (equation_tokens u e)
equation_pass u e =
    pass_cons (number_text u) (sign_text e.name.sign ∷ codes "avoid" ∷ named_tokens e) (number_pass is_token_byte digit_in_token refl u)
    (pass_cons (sign_text e.name.sign) (codes "avoid" ∷ named_tokens e) (sign_pass e.name.sign)
    (pass_cons (codes "avoid") (named_tokens e) refl
    (pass_append (list_tokens e.name.avoid) (codes "require" ∷ made_tokens e) (list_pass e.name.avoid) (pass_cons (codes "require") (made_tokens e) refl (made_pass e)))))

-- tokens have no space
token_no_space : (c : ℕ) → is_token_byte c ≡ true → is_other 32 c ≡ true
token_no_space c e = grind (arith, nat_tests)

solid : (ts : List (List ℕ)) → Pass is_token_byte ts → Pass (is_other 32) ts
solid ts p t i = pass_wider is_token_byte (is_other 32) token_no_space t (p t i)

-- there are some terms' tokens
barred_some : (t : Term) (ts : List Term) → 0 < length (barred_tokens (t ∷ ts))
barred_some t [] = omega arith
barred_some t (s ∷ ts) = omega arith

terms_some : (ts : List Term) → 0 < length (terms_tokens ts)
terms_some [] = omega arith
terms_some (t ∷ ts) = barred_some t ts

-- joined with spaces they are the text of the terms
barred_joined : (t : Term) (ts : List Term) → join_by term_text (codes " | ") (t ∷ ts) ≡ join_with_byte 32 (barred_tokens (t ∷ ts))
barred_joined t [] = append-nil (term_text t)
barred_joined t (s ∷ ts) =
    ap (λ (u : List ℕ). term_text t ++ (codes " | " ++ u)) (barred_joined s ts)
    ∙ ap (λ (u : List ℕ). term_text t ++ 32 ∷ u) (sym (join_before 32 (codes "|") (barred_tokens (s ∷ ts)) (barred_some s ts)))

terms_joined : (ts : List Term) → terms_text ts ≡ join_with_byte 32 (terms_tokens ts)
unfolding terms_text
terms_joined [] = refl
terms_joined (t ∷ ts) = barred_joined t ts

-- the required words and the terms
made_joined : (e : Equation) → join_with_byte 32 (made_tokens e) ≡ words_text e.name.require ++ (codes " = " ++ terms_text e.terms)
made_joined e =
    join_append 32 (list_tokens e.name.require) (codes "=" ∷ terms_tokens e.terms) (list_some e.name.require) (omega arith)
    ∙ ap₂ (λ (s t : List ℕ). s ++ 32 ∷ t) (sym (list_joined e.name.require))
    (join_before 32 (codes "=") (terms_tokens e.terms) (terms_some e.terms) ∙ ap (λ (t : List ℕ). codes "= " ++ t) (sym (terms_joined e.terms)))

made_some : (e : Equation) → 0 < length (made_tokens e)
made_some e = omega (arith, length-append (list_tokens e.name.require) (codes "=" ∷ terms_tokens e.terms))

named_some : (e : Equation) → 0 < length (named_tokens e)
named_some e = omega (arith, length-append (list_tokens e.name.avoid) (codes "require" ∷ made_tokens e))

-- the words and the terms
named_joined : (e : Equation) → join_with_byte 32 (named_tokens e)
    ≡ words_text e.name.avoid ++ (codes " require " ++ (words_text e.name.require ++ (codes " = " ++ terms_text e.terms)))
named_joined e =
    join_append 32 (list_tokens e.name.avoid) (codes "require" ∷ made_tokens e) (list_some e.name.avoid) (omega arith)
    ∙ ap₂ (λ (s t : List ℕ). s ++ 32 ∷ t) (sym (list_joined e.name.avoid))
    (join_before 32 (codes "require") (made_tokens e) (made_some e) ∙ ap (λ (t : List ℕ). codes "require " ++ t) (made_joined e))

-- the pieces of a line are tokens where it is their text
pub line_same : {V : Type 0} (Q : V → Type 0) (tokens : V → List (List ℕ)) (text : V → List ℕ) (line : List ℕ) (ps : List (List ℕ))
    → ps ≡ slice_split (λ b. b == 32) line → ((v : V) → join_with_byte 32 (tokens v) ++ codes "\n" ≡ text v)
    → ((v : V) → 0 < length (tokens v)) → ((v : V) → Pass (is_other 32) (tokens v))
    → SameReadings Q Q tokens ps text (line ++ codes "\n")
line_same Q tokens text line ps is joined some pass = record {
  to = λ v q e. (q, ap (λ (t : List ℕ). t ++ codes "\n") (pieces_joined 32 line (tokens v) (sym is ∙ e)) ∙ joined v);
  from = λ v q e. (q, is ∙ joined_pieces 32 line (tokens v) (some v) (pass v) (append_cancel_right _ _ (codes "\n") (e ∙ sym (joined v))));
}

-- the line of an equation, regrouped
group_equation : (n s a r t : List ℕ) → (n ++ (codes " " ++ (s ++ (codes " avoid " ++ (a ++ (codes " require " ++ (r ++ (codes " = " ++ t)))))))) ++ codes "\n"
    ≡ n ++ (codes " " ++ ((s ++ (codes " avoid " ++ (a ++ (codes " require " ++ r)))) ++ (codes " = " ++ (t ++ codes "\n"))))
group_equation n s a r t = simp append_assoc

-- joined with spaces, with a line feed, the tokens of an equation are its text
pub equation_joined : (u : ℕ) (e : Equation) → join_with_byte 32 (equation_tokens u e) ++ codes "\n" ≡ equation_text u e
unfolding equation_text name_text
equation_joined u e =
    ap (λ (t : List ℕ). t ++ codes "\n")
    (ap (λ (t : List ℕ). number_text u ++ (codes " " ++ (sign_text e.name.sign ++ (codes " " ++ t))))
    (join_before 32 (codes "avoid") (named_tokens e) (named_some e) ∙ ap (λ (t : List ℕ). codes "avoid " ++ t) (named_joined e)))
    ∙ group_equation (number_text u) (sign_text e.name.sign) (words_text e.name.avoid) (words_text e.name.require) (terms_text e.terms)

pub equation_same : (count u : ℕ) (line : List ℕ) (ps : List (List ℕ)) → ps ≡ slice_split (λ b. b == 32) line
    → SameReadings (IsEquationOf count) (IsEquationOf count) (equation_tokens u) ps (equation_text u) (line ++ codes "\n")
equation_same count u line ps is =
    line_same (IsEquationOf count) (equation_tokens u) (equation_text u) line ps is (equation_joined u) (λ e. omega arith) (λ e. solid (equation_tokens u e) (equation_pass u e))

-- those of the counts
numeral_pass : (n : ℕ) → list_all is_token_byte (decimal n) ≡ true
numeral_pass n = pass_wider is_ascii_digit is_token_byte digit_in_token (decimal n) (numeral_digits n)

pub counts_pass : (counts : Counts) → Pass is_token_byte (counts_tokens counts)
counts_pass counts = first
  where
    fifth : Pass is_token_byte (codes "terms" ∷ decimal counts.terms ∷ [])
    fifth = pass_cons (codes "terms") (decimal counts.terms ∷ []) refl (pass_cons (decimal counts.terms) [] (numeral_pass counts.terms) pass_nil)

    third : Pass is_token_byte (codes "equations" ∷ decimal counts.equations ∷ codes "terms" ∷ decimal counts.terms ∷ [])
    third = pass_cons (codes "equations") (decimal counts.equations ∷ codes "terms" ∷ decimal counts.terms ∷ []) refl
        (pass_cons (decimal counts.equations) (codes "terms" ∷ decimal counts.terms ∷ []) (numeral_pass counts.equations) fifth)

    first : Pass is_token_byte (counts_tokens counts)
    first = pass_cons (codes "system") (decimal counts.version ∷ codes "equations" ∷ decimal counts.equations ∷ codes "terms" ∷ decimal counts.terms ∷ []) refl
        (pass_cons (decimal counts.version) (codes "equations" ∷ decimal counts.equations ∷ codes "terms" ∷ decimal counts.terms ∷ []) (numeral_pass counts.version) third)

group_counts : (v x y : List ℕ) → (codes "system " ++ (v ++ (codes " equations " ++ (x ++ (codes " terms " ++ y))))) ++ codes "\n"
    ≡ codes "system " ++ (v ++ (codes " equations " ++ (x ++ (codes " terms " ++ (y ++ codes "\n")))))
group_counts v x y = simp append_assoc

pub counts_joined : (counts : Counts) → join_with_byte 32 (counts_tokens counts) ++ codes "\n" ≡ counts_line counts
unfolding counts_text
counts_joined counts = group_counts (decimal counts.version) (decimal counts.equations) (decimal counts.terms)

pub counts_same : (line : List ℕ) (ps : List (List ℕ)) → ps ≡ slice_split (λ b. b == 32) line
    → SameReadings AreCounts AreCounts counts_tokens ps counts_line (line ++ codes "\n")
counts_same line ps is = line_same AreCounts counts_tokens counts_line line ps is counts_joined (λ k. omega arith) (λ k. solid (counts_tokens k) (counts_pass k))

-- and those of a key and a list of words
group_words : (k w : List ℕ) → (k ++ 32 ∷ w) ++ codes "\n" ≡ k ++ (codes " " ++ (w ++ codes "\n"))
group_words k w = append_assoc k (32 ∷ w) (codes "\n")

pub words_joined : (key : List ℕ) (ws : List (List ℕ)) → join_with_byte 32 (key ∷ list_tokens ws) ++ codes "\n" ≡ key ++ (codes " " ++ (words_text ws ++ codes "\n"))
words_joined key ws =
    ap (λ (t : List ℕ). t ++ codes "\n") (join_before 32 key (list_tokens ws) (list_some ws) ∙ ap (λ (t : List ℕ). key ++ 32 ∷ t) (sym (list_joined ws)))
    ∙ group_words key (words_text ws)

pub words_same : (key line : List ℕ) (ps : List (List ℕ)) → list_all (is_other 32) key ≡ true → ps ≡ slice_split (λ b. b == 32) line
    → SameReadings IsFewPatterns IsFewPatterns (λ ws. key ∷ list_tokens ws) ps (λ ws. key ++ (codes " " ++ (words_text ws ++ codes "\n"))) (line ++ codes "\n")
words_same key line ps spaceless is =
    line_same IsFewPatterns (λ ws. key ∷ list_tokens ws) _ line ps is (words_joined key) (λ ws. omega arith) (λ ws. keyed ws)
  where
    keyed : (ws : List (List ℕ)) → Pass (is_other 32) (key ∷ list_tokens ws)
    keyed ws t (inl e) = subst (λ (u : List ℕ). list_all (is_other 32) u ≡ true) (sym e) spaceless
    keyed ws t (inr i) = solid (list_tokens ws) (list_pass ws) t i
