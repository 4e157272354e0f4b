-- The steps of pruning: children join those that are kept, equations are gone through, and terms and equations are made new.
use Rattle.std.proofs.Common.{◌≡◌, ℕ, suc, ◌+◌, ◌-◌, ◌≤◌, ◌<◌, ◌^◌, ◌⊎◌, inl, inr, List, [], ◌∷◌, ◌++◌, map, length, take, drop, get_or, slice_get, nat_lt, cond, lt-ltb, Bool, true, false, not, Option, Some, None, sym, ap, ◌∙◌, subst, arith}
use Rattle.std.specs.List.{position, position_or_len}
use Rattle.std.proofs.lemmas.Bool.{cases_lt}
use Rattle.std.proofs.lemmas.List.{take_all, map-append}
use Rattle.std.proofs.lemmas.List.Sums.{prefix_len-le-length}
use Rattle.std.proofs.lemmas.Option.{slice_get_within, get_or_from_slice_get}
use Rattle.std.proofs.Math.Seq.{drop-cons, take-suc}
use Rattle.av_perm.proofs.ListLaws.{get_In}
use Rattle.av_sys.specs.declared.names.Name.{Name}
use Rattle.av_sys.specs.declared.terms.Term.{Term}
use Rattle.av_sys.specs.declared.terms.Equation.{Equation}
use Rattle.av_sys.specs.declared.terms.System.{System}
use Rattle.av_sys.specs.Terms.{terms_of, children_of, IsWellFormed}
use Rattle.av_build.specs.Alive.{has_marked, alive_marks}
use Rattle.av_build.specs.Lean.{marked_terms, children_in, used, with_numbers, found_after, kept, name_of, lean_equation, renumbered, live_terms}
use Rattle.av_build.proofs.FoundNumbers.{numbers_append}
use Rattle.av_build.proofs.KeptEquations.{found_first, found_next, found_grows, found_within, found_few, found_kept}
use Rattle.av_build.proofs.LeanForm.{lean_form_law}

-- a list that has no element of a kind
pub position_none : {A : Type 0} (test : A → Bool) (xs : List A) → position test xs ≡ None → length xs ≡ position_or_len test xs
position_none {A} test xs e = by (cases_lt (position_or_len test xs) (length xs))
  where
    by : (position_or_len test xs < length xs) ⊎ (length xs ≤ position_or_len test xs) → length xs ≡ position_or_len test xs
    by (inl l) =
        let t : nat_lt (position_or_len test xs) (length xs) ≡ true = lt-ltb (position_or_len test xs) (length xs) l in
        absurd (let z : Some (position_or_len test xs) ≡ None = sym (ap (λ b. cond {A = Option ℕ} b (Some (position_or_len test xs)) None) t) ∙ e in cc)
    by (inr g) = omega (arith, prefix_len-le-length (λ x. not (test x)) xs)

-- the marked ones of the terms from number i on, where the term with this number has such a mark
next_terms : (marks : List Bool) (terms : List Term) (i : ℕ) (t : Term) (b : Bool) → i < length terms → t ≡ get_or terms i t → has_marked marks t ≡ b
    → marked_terms marks (drop i terms) ≡ cond b (t ∷ marked_terms marks (drop (i + 1) terms)) (marked_terms marks (drop (i + 1) terms))
next_terms marks terms i t b h e m =
    let n : suc i ≡ i + 1 = omega arith in
    ap (marked_terms marks) (drop-cons terms i t h ∙ ap (λ x. x ∷ drop (suc i) terms) (sym e) ∙ ap (λ k. t ∷ drop k terms) n)
    ∙ ap (λ c. cond c (t ∷ marked_terms marks (drop (i + 1) terms)) (marked_terms marks (drop (i + 1) terms))) m

-- the children of a term join in its turn where they are all marked
pub used_join : (marks : List Bool) (terms : List Term) (i : ℕ) (t : Term) (old new : List ℕ) → i < length terms → t ≡ get_or terms i t → has_marked marks t ≡ true
    → new ≡ with_numbers old (children_of (Some t))
    → with_numbers new (children_in (marked_terms marks (drop (i + 1) terms))) ≡ with_numbers old (children_in (marked_terms marks (drop i terms)))
used_join marks terms i t old new h e m q =
    ap (λ l. with_numbers l (children_in (marked_terms marks (drop (i + 1) terms)))) q
    ∙ sym (numbers_append old (children_of (Some t)) (children_in (marked_terms marks (drop (i + 1) terms))))
    ∙ ap (λ (l : List Term). with_numbers old (children_in l)) (sym (next_terms marks terms i t true h e m))

-- and where they are not, nothing joins
pub used_pass : (marks : List Bool) (terms : List Term) (i : ℕ) (t : Term) (old : List ℕ) → i < length terms → t ≡ get_or terms i t → has_marked marks t ≡ false
    → with_numbers old (children_in (marked_terms marks (drop (i + 1) terms))) ≡ with_numbers old (children_in (marked_terms marks (drop i terms)))
used_pass marks terms i t old h e m =
    ap (λ (l : List Term). with_numbers old (children_in l)) (sym (next_terms marks terms i t false h e m))

-- the list is that of the numbers found once j were gone through, which are no more than it has
abbrev pub HasFound : System → List ℕ → ℕ → Type 0
HasFound S found j = (found ≡ found_after S j) × (j ≤ length found)

-- at first that is equation 0
pub found_starts : (S : System) (found : List ℕ) → found ≡ 0 ∷ [] → HasFound S found 0
found_starts S found e = (e ∙ sym (found_first S), omega arith)

-- each number found is that of an equation
pub found_number : (S : System) (found : List ℕ) (j i u : ℕ) → IsWellFormed S → HasFound S found j → slice_get found i ≡ Some u → u < length S.equations
found_number S found j i u form h e = found_within S form.some j u (get_In (found_after S j) i u (ap (λ l. slice_get l i) (sym h.0) ∙ e))

-- one more is gone through
pub found_turn : (S : System) (marks : List Bool) (j u : ℕ) (e : Equation) (old new : List ℕ) → marks ≡ alive_marks S.equations → HasFound S old j
    → slice_get old j ≡ Some u → slice_get S.equations u ≡ Some e
    → new ≡ with_numbers old (children_in (marked_terms marks e.terms)) → HasFound S new (j + 1)
found_turn S marks j u e old new m h at_place at_equation q = (is, omega (arith, slice_get_within old j u at_place, ap length h.0, ap length step, found_grows S j u))
  where
    next : found_after S (suc j) ≡ with_numbers (found_after S j) (used S u)
    next = found_next S j u (ap (λ l. slice_get l j) (sym h.0) ∙ at_place)

    uses : children_in (marked_terms marks e.terms) ≡ used S u
    uses = ap (λ l. children_in (marked_terms l e.terms)) m ∙ ap (λ (o : Option Equation). children_in (marked_terms (alive_marks S.equations) (terms_of o))) (sym at_equation)

    step : new ≡ with_numbers (found_after S j) (used S u)
    step = q ∙ ap (with_numbers old) uses ∙ ap (λ l. with_numbers l (used S u)) h.0

    is : new ≡ found_after S (j + 1)
    is = let n : suc j ≡ j + 1 = omega arith in step ∙ sym next ∙ ap (found_after S) n

-- fewer are left then
pub found_left : (S : System) (found : List ℕ) (j : ℕ) → IsWellFormed S → HasFound S found j → j < length found → length S.equations - (j + 1) < length S.equations - j
found_left S found j form h l = omega (arith, ap length h.0, found_few S form.some j, l)

-- once all were gone through they are the ones that are kept
pub found_ends : (S : System) (found : List ℕ) (j : ℕ) → IsWellFormed S → HasFound S found j → length found ≤ j → found ≡ kept S
found_ends S found j form h l = h.0 ∙ found_kept S form.some j (subst (λ f. j ≤ length f) h.0 h.1) (subst (λ f. length f ≤ j) h.0 l)

-- each of these is the number of an equation
pub kept_number : (S : System) (found : List ℕ) (i u : ℕ) → IsWellFormed S → found ≡ kept S → slice_get found i ≡ Some u → u < length S.equations
kept_number S found i u form k e = found_within S form.some (length S.equations) u (get_In (kept S) i u (ap (λ l. slice_get l i) (sym k) ∙ e))

-- there are fewer than 2 ^ 32
pub kept_few : (S : System) (found : List ℕ) → IsWellFormed S → found ≡ kept S → length found < 2 ^ 32
kept_few S found form k = omega (arith, ap length k, found_few S form.some (length S.equations), form.few)

-- the equation of one more joins the others
pub equation_joins : (S : System) (found : List ℕ) (marks : List Bool) (i u : ℕ) (e new : Equation) (before after : List Equation)
    → found ≡ kept S → marks ≡ alive_marks S.equations
    → before ≡ map (lean_equation S (kept S)) (take i (kept S)) → slice_get found i ≡ Some u → slice_get S.equations u ≡ Some e → new.name ≡ e.name
    → new.terms ≡ map (renumbered found) (marked_terms marks e.terms) → after ≡ before ++ new ∷ [] → after ≡ map (lean_equation S (kept S)) (take (i + 1) (kept S))
equation_joins S found marks i u e new before after k m b at_place at_equation named termed a =
    a ∙ ap (λ l. l ++ new ∷ []) b ∙ ap (λ x. map (lean_equation S (kept S)) (take i (kept S)) ++ x ∷ []) made
    ∙ sym (map-append (lean_equation S (kept S)) (take i (kept S)) (u ∷ []))
    ∙ ap (map (lean_equation S (kept S))) (sym taken)
  where
    place : slice_get (kept S) i ≡ Some u
    place = ap (λ l. slice_get l i) (sym k) ∙ at_place

    taken : take (i + 1) (kept S) ≡ take i (kept S) ++ u ∷ []
    taken =
        let n : i + 1 ≡ suc i = omega arith in
        ap (λ j. take j (kept S)) n ∙ take-suc (kept S) i u (slice_get_within (kept S) i u place) ∙ ap (λ x. take i (kept S) ++ x ∷ []) (get_or_from_slice_get (kept S) i u u place)

    names : new.name ≡ name_of (slice_get S.equations u)
    names = named ∙ ap name_of (sym at_equation)

    terms : new.terms ≡ map (renumbered (kept S)) (live_terms S u)
    terms =
        termed ∙ ap (λ l. map (renumbered l) (marked_terms marks e.terms)) k ∙ ap (λ l. map (renumbered (kept S)) (marked_terms l e.terms)) m
        ∙ ap (λ (o : Option Equation). map (renumbered (kept S)) (marked_terms (alive_marks S.equations) (terms_of o))) (sym at_equation)

    made : new ≡ lean_equation S (kept S) u
    made =
        ap (λ (n : Name). let x : Equation = record { name = n; terms = new.terms } in x) names
        ∙ ap (λ (ts : List Term). let x : Equation = record { name = name_of (slice_get S.equations u); terms = ts } in x) terms

-- once all were made the system is well formed
pub pruned_formed : (S : System) (es : List Equation) (i : ℕ) → IsWellFormed S → es ≡ map (lean_equation S (kept S)) (take i (kept S)) → length (kept S) ≤ i
    → IsWellFormed (record { equations = es })
pruned_formed S es i form e l =
    subst (λ (x : List Equation). let R : System = record { equations = x } in IsWellFormed R) (sym (e ∙ ap (map (lean_equation S (kept S))) (take_all i (kept S) l))) (lean_form_law S form).form
