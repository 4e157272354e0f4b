-- Where the verdict is yes the system is exact, and each equation generates what its name describes.
use Rattle.std.proofs.Common.{◌≡◌, ℕ, zero, suc, ◌+◌, List, [], ◌∷◌, length, slice_get, Bool, true, false, cond, nat_eq, eqb-true, Option, Some, None, refl, sym, ap, ◌∙◌, subst, arith, true≢false}
use Rattle.std.proofs.lemmas.Bool.{and_parts}
use Rattle.std.proofs.lemmas.List.{nil_from_length}
use Rattle.av_perm.proofs.ListLaws.{get_In, get_within}
use Rattle.av_sys.specs.declared.names.Name.{Name}
use Rattle.av_sys.specs.declared.terms.Term.{Term}
use Rattle.av_sys.specs.declared.terms.Equation.{Equation}
use Rattle.av_sys.specs.declared.terms.System.{System}
use Rattle.av_sys.specs.Names.{Means}
use Rattle.av_sys.specs.Trees.{Tree, IsTree}
use Rattle.av_sys.specs.Exact.{MeansOf, MeansAt, Named}
use Rattle.av_sys.proofs.Subtrees.{tree_equation, tree_term}
use Rattle.av_build.specs.Canonical.{same_name, is_void}
use Rattle.av_build.proofs.NameNumbers.{name_equal}
use Rattle.av_build.proofs.BareSystems.{void_none}
use Rattle.av_build.proofs.TermLaws.{right_named}
use Rattle.av_build.proofs.ExactAlways.{exact_from}
use Rattle.av_check.specs.declared.claim.Claim.{Claim}
use Rattle.av_check.specs.declared.verdict.Verdict.TheVariants as verdicts
use Rattle.av_check.specs.declared.fault.Fault.{Fault}
use Rattle.av_check.specs.Verdicts.{required_of, claim_name, equation_fault, verdict_from, is_bare, yes_if, verdict_up_to}
use Rattle.av_check.specs.Laws.{IsClaimOfWords, HoldsAllSimples, IsRightClaim, SoundLaw}
use Rattle.av_check.proofs.VerdictParts.{faultless, yes_none}
use Rattle.av_check.proofs.RightNames.{first_is}
use Rattle.av_check.proofs.EquationTerms.{IsChecked, checked_right, checked_whole}

-- a system of one equation without terms, whose name no word means
bare_parts : (first : Name) (es : List Equation) → is_bare first es ≡ true → (e : Equation) × (es ≡ e ∷ []) × (e.name ≡ first) × (e.terms ≡ [])
bare_parts first [] h = absurd (true≢false (sym h))
bare_parts first (e ∷ []) h =
    let p = and_parts (same_name e.name first) (nat_eq (length e.terms) 0) h in
    (e, refl, name_equal e.name first p.0, nil_from_length e.terms (eqb-true (length e.terms) 0 p.1))
bare_parts first (e ∷ d ∷ es) h = absurd (true≢false (sym h))

module _ (S : System) (e : Equation) (one : S.equations ≡ e ∷ []) (bare : e.terms ≡ []) (void : (w : List ℕ) → Means e.name w → ⊥) where
  only : (u : ℕ) (d : Equation) → slice_get S.equations u ≡ Some d → d ≡ e
  only u d q = by u (subst (λ es. slice_get es u ≡ Some d) one q)
    where
      by : (u : ℕ) → slice_get (e ∷ []) u ≡ Some d → d ≡ e
      by zero r = let z : Some e ≡ Some d = r in cc
      by (suc u) r = absurd (let z : None ≡ Some d = r in cc)

  no_tree : (u : ℕ) (T : Tree) → IsTree S u T → ⊥
  no_tree u T v =
      let d = tree_equation S u T v in
      let t = tree_term S u d.0 T d.1 v in
      let z : slice_get [] T.term ≡ Some t.term = subst (λ (ts : List Term). slice_get ts T.term ≡ Some t.term) bare (subst (λ (x : Equation). slice_get x.terms T.term ≡ Some t.term) (only u d.0 d.1) t.listed) in
      let y : None ≡ Some t.term = z in cc

  no_word : (u : ℕ) (w : List ℕ) → MeansAt S u w → ⊥
  no_word u w m = by (slice_get S.equations u) refl m
    where
      by : (o : Option Equation) → slice_get S.equations u ≡ o → MeansOf o w → ⊥
      by None q k = k
      by (Some d) q k = void w (subst (λ (x : Equation). Means x.name w) (only u d q) k)

  pub void_named : Named S
  void_named m = record {
    sound = λ u T v s. absurd (no_tree u T v);
    complete = λ u w k l. absurd (no_word u w k);
    once = λ u T U v w s r same. absurd (no_tree u T v);
  }

-- where the verdict is yes no equation has a fault
checked : (limit : ℕ) (claim : Claim) (simples : List (List ℕ)) → IsClaimOfWords claim → HoldsAllSimples claim.basis simples
    → verdict_from (equation_fault limit (claim_name claim) claim.system simples) 0 claim.system.equations ≡ verdicts.Yes
    → IsChecked limit claim.basis (required_of claim) claim.system simples
checked limit claim simples g h y = record {
  form = g.form;
  words = λ u e q. g.names e (get_In claim.system.equations u e q);
  basis_words = g.basis;
  held = h;
  faultless = λ u e q.
      let n : u ≡ 0 + u = omega arith in
      let f : ℕ → Equation → Option Fault = equation_fault limit (claim_name claim) claim.system simples in
      faultless limit (claim_name claim) claim.system simples u e (ap (λ k. f k e) n ∙ yes_none f 0 claim.system.equations y u e q);
}

-- the law
pub sound_law : SoundLaw
unfolding verdict_up_to
sound_law limit claim simples g h y = by (is_void first) refl y
  where
    first : Name
    first = claim_name claim

    yes : (b : Bool) → yes_if b ≡ verdicts.Yes → b ≡ true
    yes true e = refl
    yes false e = absurd (let z : verdicts.Name 0 ≡ verdicts.Yes = e in cc)

    by : (b : Bool) → is_void first ≡ b
        → cond b (yes_if (is_bare first claim.system.equations)) (verdict_from (equation_fault limit first claim.system simples) 0 claim.system.equations) ≡ verdicts.Yes
        → IsRightClaim claim
    by true c y =
        let s = bare_parts first claim.system.equations (yes (is_bare first claim.system.equations) y) in
        let void : (w : List ℕ) → Means s.0.name w → ⊥ = λ w m. void_none first c w (subst (λ k. Means k w) s.2 m) in
        let n = void_named claim.system s.0 s.1 s.3 void in
        (exact_from claim.basis (required_of claim) claim.system g.basis g.required (s.0, ap (λ es. slice_get es 0) s.1, s.2) n, n)
    by false c y =
        let k = checked limit claim simples g h y in
        let n = right_named claim.system (checked_right limit claim.basis (required_of claim) claim.system simples k) (checked_whole limit claim.basis (required_of claim) claim.system simples k) in
        let e = get_within claim.system.equations 0 g.form.some in
        let f = (k.faultless 0 e.0 e.1).name in
        (exact_from claim.basis (required_of claim) claim.system g.basis g.required (e.0, e.1, first_is first e.0.name f) n, n)
