-- The lean system is well formed, and no larger than the system.
use Rattle.std.proofs.Common.{◌≡◌, ℕ, suc, ◌+◌, ◌≤◌, ◌<◌, List, [], ◌∷◌, map, length, slice_get, sum_by, Option, Some, None, refl, sym, ◌∙◌, ap, subst, arith}
use Rattle.std.proofs.lemmas.List.{length-map}
use Rattle.std.proofs.lemmas.List.Sums.{length-filter, count_by-le-length, sum_by-cons, sum_by-le-sum_by}
use Rattle.std.proofs.lemmas.Option.{slice_get_within}
use Rattle.av_perm.specs.Lists.{counting}
use Rattle.av_perm.specs.Members.{In}
use Rattle.av_perm.proofs.Membership.{Each, In_map, In_filter}
use Rattle.av_perm.proofs.ListLaws.{get_In}
use Rattle.av_sys.specs.declared.terms.Term.{Term}
use Rattle.av_sys.specs.declared.terms.Term.TheVariants.{Point, Node}
use Rattle.av_sys.specs.declared.terms.Equation.{Equation}
use Rattle.av_sys.specs.declared.terms.System.{System}
use Rattle.av_sys.specs.Terms.{terms_of, terms_at, children_of, IsTermOf, IsWellFormed}
use Rattle.av_build.specs.Canonical.{system_size}
use Rattle.av_build.specs.Alive.{has_marked, alive_marks}
use Rattle.av_build.specs.Lean.{live_terms, place_of, renumbered, lean_equation, lean_over, kept, IsNumbering}
use Rattle.av_build.specs.LeanLaws.{LeanFormLaw}
use Rattle.av_build.proofs.ListPlaces.{part_sum, below_In, once_few}
use Rattle.av_build.proofs.FoundNumbers.{place_within}
use Rattle.av_build.proofs.KeptEquations.{child_used, kept_numbering, numbering_first, numbering_once, numbering_within, numbering_closed}

-- how many terms an equation has
abbrev terms_of_equation : Equation → ℕ
terms_of_equation e = length e.terms

-- a term of an equation of a well-formed system is one of so many equations
term_formed : (S : System) → IsWellFormed S → (u : ℕ) (t : Term) → In t (terms_at S u) → IsTermOf (length S.equations) t
term_formed S form u t i = by (slice_get S.equations u) refl i
  where
    by : (o : Option Equation) → slice_get S.equations u ≡ o → In t (terms_of o) → IsTermOf (length S.equations) t
    by None e j = absurd j
    by (Some d) e j = form.terms d t (get_In S.equations u d e) j

-- with new numbers it is one of as many equations as are kept, where its children are kept
renumbered_formed : (found : List ℕ) (n : ℕ) (t : Term) → Each (λ c. In c found) (children_of (Some t)) → IsTermOf n t → IsTermOf (length found) (renumbered found t)
renumbered_formed found n Point h f = tt
renumbered_formed found n (Node root cs) h f = record {
  rooted = f.rooted;
  count = length-map cs (place_of found) ∙ f.count;
  numbers = λ d i. let r = In_map (place_of found) cs d i in subst (λ k. k < length found) (sym r.2) (place_within found r.0 (h r.0 r.1));
}

module _ (S : System) (form : IsWellFormed S) (found : List ℕ) (numbering : IsNumbering S found) where
  -- no more equations are kept than there were
  kept_few : length found ≤ length S.equations
  kept_few = once_few found (length S.equations) (numbering_once S found numbering) (numbering_within S form.some found numbering)

  -- the lean system has as many equations as are kept
  lean_count : length (lean_over S found).equations ≡ length found
  lean_count = length-map found (lean_equation S found)

  -- a term of an equation that is kept
  lean_term : (u : ℕ) (t : Term) → In u found → In t (map (renumbered found) (live_terms S u)) → IsTermOf (length found) t
  lean_term u t iu it =
      let r = In_map (renumbered found) (live_terms S u) t it in
      let live = In_filter (has_marked (alive_marks S.equations)) (terms_at S u) r.0 r.1 in
      subst (IsTermOf (length found)) (sym r.2)
      (renumbered_formed found (length S.equations) r.0 (λ c i. numbering_closed S found numbering u iu c (child_used S u c r.0 r.1 i)) (term_formed S form u r.0 live.0))

  -- the lean system is well formed
  pub lean_formed : IsWellFormed (lean_over S found)
  lean_formed = record {
    some = omega (arith, lean_count, slice_get_within found 0 0 (numbering_first S found numbering));
    few = omega (arith, lean_count, kept_few, form.few);
    terms = λ e t ie it.
        let r = In_map (lean_equation S found) found e ie in
        subst (λ n. IsTermOf n t) (sym lean_count) (lean_term r.0 t r.1 (subst (λ (x : Equation). In t x.terms) r.2 it));
  }

  -- an equation that is kept has no more terms than before
  fewer_terms : (u : ℕ) → length (map (renumbered found) (live_terms S u)) ≤ length (terms_at S u)
  fewer_terms u =
      let is_live = has_marked (alive_marks S.equations) in
      omega (arith, length-map (live_terms S u) (renumbered found), length-filter is_live (terms_at S u), count_by-le-length is_live (terms_at S u))

  -- how many terms an equation that is kept has
  abbrev kept_terms : ℕ → ℕ
  kept_terms u = length (map (renumbered found) (live_terms S u))

  -- a sum over the equations of the lean system is one over those kept
  sum_lean : (us : List ℕ) → sum_by terms_of_equation (map (lean_equation S found) us) ≡ sum_by kept_terms us
  sum_lean [] = refl
  sum_lean (u ∷ us) =
      omega (arith, sum_by-cons terms_of_equation (lean_equation S found u) (map (lean_equation S found) us), sum_by-cons kept_terms u us, sum_lean us)

-- the terms of all equations, by number
sum_numbers : (S : System) (es : List Equation) (lo : ℕ) → ((u : ℕ) → slice_get S.equations (lo + u) ≡ slice_get es u)
    → sum_by (λ u. length (terms_at S u)) (counting lo (length es)) ≡ sum_by terms_of_equation es
sum_numbers S [] lo h = refl
sum_numbers S (e ∷ es) lo h =
    let first : terms_at S lo ≡ e.terms = ap terms_of (ap (slice_get S.equations) (omega arith) ∙ h 0) in
    omega (
      arith,
      ap length first,
      sum_by-cons (λ u. length (terms_at S u)) lo (counting (suc lo) (length es)),
      sum_by-cons terms_of_equation e es,
      sum_numbers S es (suc lo) (λ u. ap (slice_get S.equations) (omega arith) ∙ h (suc u)),
    )

-- the lean system is no larger
lean_small : (S : System) → IsWellFormed S → (found : List ℕ) → IsNumbering S found → system_size (lean_over S found) ≤ system_size S
lean_small S form found numbering =
    let once = numbering_once S found numbering in
    let within = numbering_within S form.some found numbering in
    omega (
      arith,
      lean_count S form found numbering,
      kept_few S form found numbering,
      sum_lean S form found numbering found,
      sum_by-le-sum_by (kept_terms S form found numbering) (λ u. length (terms_at S u)) found (fewer_terms S form found numbering),
      part_sum (λ u. length (terms_at S u)) found (counting 0 (length S.equations)) once (below_In found (length S.equations) within),
      sum_numbers S S.equations 0 (λ u. ap (slice_get S.equations) (omega arith)),
    )

-- the law
pub lean_form_law : LeanFormLaw
lean_form_law S form = record { form = lean_formed S form (kept S) (kept_numbering S form.some); small = lean_small S form (kept S) (kept_numbering S form.some) }
