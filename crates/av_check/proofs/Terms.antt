-- The texts of terms, cut into pieces and joined again.
use Rattle.std.proofs.Common.{◌≡◌, ◌⊎◌, inl, inr, ℕ, ◌<◌, ◌≤◌, Bool, true, false, ◌==◌, List, [], ◌∷◌, ◌++◌, map, flat_map, length, codes, decimal, refl, sym, ap, subst, ◌∙◌, append_assoc, arith}
use Rattle.std.specs.Char.{is_ascii_digit}
use Rattle.std.specs.List.{list_all, slice_split, join_with_byte}
use Rattle.std.proofs.lemmas.Bool.{and_from, cases_lt}
use Rattle.std.proofs.lemmas.Bool.Decides.{nat_tests}
use Rattle.std.proofs.lemmas.List.{length-map, length-append}
use Rattle.std.proofs.lemmas.Grind.{flat_map-append}
use Rattle.std.proofs.lemmas.List.Splits.{length-slice_split}
use Rattle.av_perm.proofs.Membership.{In_one, In_append_cases, In_map}
use Rattle.av_sys.specs.declared.terms.Term.{Term}
use Rattle.av_sys.specs.declared.terms.Term.TheVariants.{Point, Node}
use Rattle.av_sys.specs.Terms.{IsSystemRoot, IsNodeOf, IsTermOf}
use Rattle.av_print.specs.Text.{word_text, root_text}
use Rattle.av_print.specs.Systems.{number_text, children_text, term_text}
use Rattle.av_print.proofs.ReadWords.{short_form, long_form, plain_root, bracketed_root}
use Rattle.av_print.proofs.ReadSystems.{system_root}
use Rattle.av_print.proofs.Tokens.{pass_wider, pass_joined, pass_both}
use Rattle.av_print.proofs.NumberTokens.{numeral_digits}
use Rattle.av_check.specs.Reading.{AreNumbers, AreChildren, IsNodeTerm, root_part, children_part, AreTermsOf, AreSomeTerms, barred_tokens, terms_tokens}
use Rattle.av_check.proofs.Joins.{Pass, join_items, is_other, cut_joined, pieces_joined, joined_pieces}
use Rattle.av_check.proofs.ReadAs.{SameReadings}
use Rattle.av_check.proofs.RootTexts.{root_pattern, root_once}

-- the bytes of numbers, words and roots pass a test that digits pass, and the few other bytes
pub number_pass : (p : ℕ → Bool) → ((c : ℕ) → is_ascii_digit c ≡ true → p c ≡ true) → p 69 ≡ true → (n : ℕ) → list_all p (number_text n) ≡ true
unfolding number_text
number_pass p digit e n = and_from (p 69) _ e (pass_wider is_ascii_digit p digit (decimal n) (numeral_digits n))

pub word_pass : (p : ℕ → Bool) → ((c : ℕ) → is_ascii_digit c ≡ true → p c ≡ true) → p 44 ≡ true → (w : List ℕ) → list_all p (word_text w) ≡ true
word_pass p digit comma w = by (cases_lt 9 (length w))
  where
    numeral : (n : ℕ) → list_all p (decimal n) ≡ true
    numeral n = pass_wider is_ascii_digit p digit (decimal n) (numeral_digits n)

    by : (9 < length w) ⊎ (length w ≤ 9) → list_all p (word_text w) ≡ true
    by (inl long) = ap (list_all p) (long_form w long) ∙ pass_joined p decimal (codes ",") numeral (and_from (p 44) true comma refl) w
    by (inr few) = ap (list_all p) (short_form w few) ∙ pass_joined p decimal [] numeral refl w

pub root_pass : (p : ℕ → Bool) → ((c : ℕ) → is_ascii_digit c ≡ true → p c ≡ true) → p 44 ≡ true → p 40 ≡ true → p 41 ≡ true → (w : List ℕ) → list_all p (root_text w) ≡ true
root_pass p digit comma opening closing w = by (cases_lt 9 (length w))
  where
    word : list_all p (word_text w) ≡ true
    word = word_pass p digit comma w

    by : (9 < length w) ⊎ (length w ≤ 9) → list_all p (root_text w) ≡ true
    by (inl long) =
        ap (list_all p) (bracketed_root w long)
        ∙ and_from (p 40) (list_all p (word_text w ++ codes ")")) opening (pass_both p (word_text w) (codes ")") word (and_from (p 41) true closing refl))
    by (inr few) = ap (list_all p) (plain_root w few) ∙ word

pub children_pass : (p : ℕ → Bool) → ((c : ℕ) → is_ascii_digit c ≡ true → p c ≡ true) → p 69 ≡ true → p 44 ≡ true → (cs : List ℕ) → list_all p (children_text cs) ≡ true
unfolding children_text
children_pass p digit e comma cs = pass_joined p number_text (codes ",") (number_pass p digit e) (and_from (p 44) true comma refl) cs

-- a digit is another byte than one that is none
digit_other : (byte : ℕ) → is_ascii_digit byte ≡ false → (c : ℕ) → is_ascii_digit c ≡ true → is_other byte c ≡ true
digit_other byte none c e = grind (arith, nat_tests)

-- the texts of children have no comma
numbers_pass : (cs : List ℕ) → Pass (is_other 44) (map number_text cs)
numbers_pass cs t i =
    let m = In_map number_text cs t i in
    subst (λ (s : List ℕ). list_all (is_other 44) s ≡ true) (sym m.2) (number_pass (is_other 44) (digit_other 44 refl) refl m.0)

children_joined : (cs : List ℕ) → children_text cs ≡ join_with_byte 44 (map number_text cs)
unfolding children_text
children_joined cs = join_items number_text 44 cs

children_cut : (cs : List ℕ) → 0 < length cs → slice_split (λ b. b == 44) (children_text cs) ≡ map number_text cs
children_cut cs some =
    ap (slice_split (λ b. b == 44)) (children_joined cs)
    ∙ cut_joined 44 (map number_text cs) (omega (arith, length-map cs number_text)) (numbers_pass cs)

-- the pieces of a text are those of children where it is their text
pub children_same : (count : ℕ) (text : List ℕ) (ps : List (List ℕ)) → ps ≡ slice_split (λ b. b == 44) text
    → SameReadings (AreNumbers count) (AreChildren count) (map number_text) ps children_text text
children_same count text ps is = record {
  to = λ cs p e. (
    record { some = omega (arith, sym (length-map cs number_text), ap length e, ap length is, length-slice_split (λ b. b == 44) text); numbers = p },
    pieces_joined 44 text (map number_text cs) (sym is ∙ e) ∙ sym (children_joined cs),
  );
  from = λ cs p e. (p.numbers, is ∙ ap (slice_split (λ b. b == 44)) e ∙ children_cut cs p.some);
}

-- children of one text are as many
children_count : (cs ds : List ℕ) → 0 < length cs → 0 < length ds → children_text cs ≡ children_text ds → length cs ≡ length ds
children_count cs ds some others e =
    sym (length-map cs number_text) ∙ ap length (sym (children_cut cs some) ∙ ap (slice_split (λ b. b == 44)) e ∙ children_cut ds others) ∙ length-map ds number_text

-- two pieces that are those of two texts
pub first_same : (a b c d : List ℕ) → a ∷ b ∷ [] ≡ c ∷ d ∷ [] → (a ≡ c) × (b ≡ d)
first_same a b c d e = (cc, cc)

-- a node has children
node_some : (count : ℕ) (r cs : List ℕ) → IsNodeOf count r cs → AreChildren count cs
node_some count r cs is = record { some = omega (arith, is.count, (system_root r is.rooted).word.filled); numbers = is.numbers }

-- texts of which the second is that of no children are those of no node
pub no_children : (count : ℕ) (root children : List ℕ) → ((cs : List ℕ) → AreChildren count cs → children ≡ children_text cs → ⊥)
    → (t : Term) → IsNodeTerm count t → root ∷ children ∷ [] ≡ root_part t ∷ children_part t ∷ [] → ⊥
no_children count root children none Point is e = is
no_children count root children none (Node r cs) is e = none cs (node_some count r cs is) (first_same root children _ _ e).1

-- nor are those of a root and of more or fewer children than it is long
pub not_as_many : (count : ℕ) (root children r cs : List ℕ) → IsSystemRoot r → root ≡ root_text r → AreChildren count cs → children ≡ children_text cs
    → (length cs ≡ length r → ⊥) → (t : Term) → IsNodeTerm count t → root ∷ children ∷ [] ≡ root_part t ∷ children_part t ∷ [] → ⊥
not_as_many count root children r cs rooted is are was unlike Point node e = node
not_as_many count root children r cs rooted is are was unlike (Node q ds) node e =
    let f = first_same root children _ _ e in
    let same = root_once r q (root_pattern r rooted) (root_pattern q node.rooted) (sym is ∙ f.0) in
    unlike (children_count cs ds are.some (node_some count q ds node).some (sym was ∙ f.1) ∙ node.count ∙ sym (ap length same))

-- the two pieces of a node's text have no opening square bracket
node_pass : (r cs : List ℕ) → Pass (is_other 91) (root_text r ∷ (children_text cs ++ codes "]") ∷ [])
node_pass r cs t (inl e) =
    subst (λ (s : List ℕ). list_all (is_other 91) s ≡ true) (sym e) (root_pass (is_other 91) (digit_other 91 refl) refl refl refl r)
node_pass r cs t (inr (inl e)) =
    subst (λ (s : List ℕ). list_all (is_other 91) s ≡ true) (sym e)
    (pass_both (is_other 91) (children_text cs) (codes "]") (children_pass (is_other 91) (digit_other 91 refl) refl refl cs) refl)
node_pass r cs t (inr (inr i)) = absurd i

-- a token that isn't the point is a term's text where its pieces are those of a node
pub term_same : (count : ℕ) (token : List ℕ) (ps : List (List ℕ)) → ps ≡ slice_split (λ b. b == 91) token → (token ≡ codes "1" → ⊥)
    → SameReadings (IsNodeTerm count) (IsTermOf count) (λ t. root_part t ∷ (children_part t ++ codes "]") ∷ []) ps term_text token
unfolding term_text
term_same count token ps is none = record { to = λ t. to t; from = λ t. from t }
  where
    to : (t : Term) → IsNodeTerm count t → ps ≡ root_part t ∷ (children_part t ++ codes "]") ∷ [] → IsTermOf count t × (token ≡ term_text t)
    to Point node e = absurd node
    to (Node r cs) node e = (node, pieces_joined 91 token _ (sym is ∙ e))

    from : (t : Term) → IsTermOf count t → token ≡ term_text t → IsNodeTerm count t × (ps ≡ root_part t ∷ (children_part t ++ codes "]") ∷ [])
    from Point term e = absurd (none e)
    from (Node r cs) term e = (term, is ∙ joined_pieces 91 token _ (omega arith) (node_pass r cs) e)

-- terms with a bar after each, in front of tokens that are left
pub record HaveBars (count : ℕ) (done : List Term) (left tokens : List (List ℕ)) : Type 0 where
  pub each : AreTermsOf count done
  pub same : flat_map (λ t. term_text t ∷ codes "|" ∷ []) done ++ left ≡ tokens

-- one more
pub bars_more : {count : ℕ} {done : List Term} {left tokens : List (List ℕ)} (t : Term) (rest : List (List ℕ)) → IsTermOf count t
    → left ≡ term_text t ∷ codes "|" ∷ rest → HaveBars count done left tokens → HaveBars count (done ++ t ∷ []) rest tokens
bars_more {count} {done} {left} {tokens} t rest term is have = record {
  each = λ s i. elim (In_append_cases done (t ∷ []) s i) [ inl a ↦ have.each s a | inr b ↦ subst (IsTermOf count) (sym (In_one s t b)) term ];
  same =
      ap (λ (l : List (List ℕ)). l ++ rest) (flat_map-append (λ (s : Term). term_text s ∷ codes "|" ∷ []) done (t ∷ []))
      ∙ append_assoc (flat_map (λ s. term_text s ∷ codes "|" ∷ []) done) (term_text t ∷ codes "|" ∷ []) rest
      ∙ ap (λ (l : List (List ℕ)). flat_map (λ s. term_text s ∷ codes "|" ∷ []) done ++ l) (sym is) ∙ have.same;
}

-- what is left of the tokens of terms are those of terms
pub bars_left : (count : ℕ) (done : List Term) (left : List (List ℕ)) (ts : List Term) → AreSomeTerms count ts
    → flat_map (λ t. term_text t ∷ codes "|" ∷ []) done ++ left ≡ barred_tokens ts → (us : List Term) × AreSomeTerms count us × (left ≡ barred_tokens us)
bars_left count [] left ts are e = (ts, are, e)
bars_left count (d ∷ done) left [] are e = absurd (let s = are.some in omega arith)
bars_left count (d ∷ done) left (t ∷ []) are e = absurd cc
bars_left count (d ∷ done) left (t ∷ s ∷ ts) are e =
    bars_left count done left (s ∷ ts) (record { some = omega arith; terms = λ u i. are.terms u (inr i) }) cc

-- the last one
pub bars_last : {count : ℕ} {done : List Term} {left tokens : List (List ℕ)} (t : Term) → IsTermOf count t → left ≡ term_text t ∷ [] → HaveBars count done left tokens
    → AreSomeTerms count (done ++ t ∷ []) × (tokens ≡ barred_tokens (done ++ t ∷ []))
bars_last {count} {done} {left} {tokens} t term is have = (
  record {
    some = omega (arith, length-append done (t ∷ []));
    terms = λ s i. elim (In_append_cases done (t ∷ []) s i) [ inl a ↦ have.each s a | inr b ↦ subst (IsTermOf count) (sym (In_one s t b)) term ];
  },
  sym have.same ∙ ap (λ (l : List (List ℕ)). flat_map (λ s. term_text s ∷ codes "|" ∷ []) done ++ l) is ∙ ended done,
)
  where
    ended : (ds : List Term) → flat_map (λ s. term_text s ∷ codes "|" ∷ []) ds ++ term_text t ∷ [] ≡ barred_tokens (ds ++ t ∷ [])
    ended [] = refl
    ended (d ∷ []) = refl
    ended (d ∷ s ∷ ds) = ap (λ (l : List (List ℕ)). term_text d ∷ codes "|" ∷ l) (ended (s ∷ ds))

-- tokens that are left and are those of no terms
pub bars_none : {count : ℕ} {done : List Term} {left tokens : List (List ℕ)} → HaveBars count done left tokens
    → ((us : List Term) → AreSomeTerms count us → left ≡ barred_tokens us → ⊥) → (ts : List Term) → AreSomeTerms count ts → tokens ≡ barred_tokens ts → ⊥
bars_none {count} {done} {left} {tokens} have none ts are e =
    let r = bars_left count done left ts are (have.same ∙ e) in
    none r.0 r.1 r.2

-- a token that is no term's text is the first of no terms, before others or alone
pub first_none : (count : ℕ) (token : List ℕ) (rest : List (List ℕ)) → ((t : Term) → IsTermOf count t → token ≡ term_text t → ⊥)
    → (us : List Term) → AreSomeTerms count us → token ∷ rest ≡ barred_tokens us → ⊥
first_none count token rest none [] are e = let s = are.some in omega arith
first_none count token rest none (u ∷ []) are e = none u (are.terms u (inl refl)) cc
first_none count token rest none (u ∷ v ∷ us) are e = none u (are.terms u (inl refl)) cc

-- a second token is a bar
pub second_none : (count : ℕ) (token bar : List ℕ) (rest : List (List ℕ)) → (bar ≡ codes "|" → ⊥)
    → (us : List Term) → AreSomeTerms count us → token ∷ bar ∷ rest ≡ barred_tokens us → ⊥
second_none count token bar rest none [] are e = let s = are.some in omega arith
second_none count token bar rest none (u ∷ []) are e = cc
second_none count token bar rest none (u ∷ v ∷ us) are e = none cc

-- fewer than two tokens that aren't one term's text
pub last_none : (count : ℕ) (left : List (List ℕ)) → length left ≤ 1 → ((t : Term) → IsTermOf count t → left ≡ term_text t ∷ [] → ⊥)
    → (us : List Term) → AreSomeTerms count us → left ≡ barred_tokens us → ⊥
last_none count left few none [] are e = let s = are.some in omega arith
last_none count left few none (u ∷ []) are e = none u (are.terms u (inl refl)) e
last_none count left few none (u ∷ v ∷ us) are e = omega (arith, ap length e)

-- terms, or `none`
pub terms_same : (count : ℕ) (tokens : List (List ℕ)) → (tokens ≡ codes "none" ∷ [] → ⊥)
    → SameReadings (AreSomeTerms count) (AreTermsOf count) barred_tokens tokens terms_tokens tokens
terms_same count tokens none = record { to = λ ts are e. (are.terms, to ts are.some e); from = λ ts. from ts }
  where
    to : (ts : List Term) → 0 < length ts → tokens ≡ barred_tokens ts → tokens ≡ terms_tokens ts
    to [] some e = absurd (omega arith)
    to (t ∷ ts) some e = e

    from : (ts : List Term) → AreTermsOf count ts → tokens ≡ terms_tokens ts → AreSomeTerms count ts × (tokens ≡ barred_tokens ts)
    from [] are e = absurd (none e)
    from (t ∷ ts) are e = (record { some = omega arith; terms = are }, e)
