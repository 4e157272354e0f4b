-- The verdict on a canonical system and on its lean system is yes, and the laws of a class with a gap.
use Rattle.std.proofs.Common.{◌≡◌, ℕ, ◌≤◌, inl, inr, List, length, nat_eq, true, false, cond, refl, ap, ◌∙◌, arith}
use Rattle.std.proofs.lemmas.Bool.{cases_Bool, and_from}
use Rattle.av_perm.specs.Gap.{simples_below}
use Rattle.av_perm.specs.Laws.{IsGap}
use Rattle.av_sys.specs.declared.names.Name.{Name}
use Rattle.av_sys.specs.declared.terms.System.{System}
use Rattle.av_build.specs.declared.limits.TheConstants.{MAX_SIZE}
use Rattle.av_build.specs.Canonical.{same_name, is_void, bare, grow_from, grown_size, as_system}
use Rattle.av_build.specs.Lean.{found_after, lean}
use Rattle.av_build.proofs.NameNumbers.{name_refl}
use Rattle.av_build.proofs.BareSystems.{grow_bare, grow_full}
use Rattle.av_build.proofs.ExactAlways.{gap_holds}
use Rattle.av_check.specs.declared.claim.Claim.{Claim}
use Rattle.av_check.specs.declared.verdict.Verdict.TheVariants as verdicts
use Rattle.av_check.specs.Verdicts.{required_of, claim_name, equation_fault, verdict_from, is_bare, yes_if, verdict_up_to}
use Rattle.av_check.specs.Laws.{HoldsAllSimples, CompleteLaw, CheckLaw}
use Rattle.av_check.proofs.Soundness.{sound_law}
use Rattle.av_check.proofs.TidyNames.{first_tidy}
use Rattle.av_check.proofs.Completeness.{canonical_faultless, yes_of}
use Rattle.av_check.proofs.LeanTerms.{lean_yes}

-- a bare system is its own lean system
bare_lean : (n : Name) → lean (as_system (bare n)) ≡ as_system (bare n)
unfolding found_after
bare_lean n = refl

-- it passes the test for one
bare_passes : (n : Name) → is_bare n (as_system (bare n)).equations ≡ true
bare_passes n = and_from (same_name n n) (nat_eq 0 0) (name_refl n) refl

-- so its verdict is yes where no word means the name of the claim
void_yes : (limit : ℕ) (claim : Claim) (simples : List (List ℕ)) → is_void (claim_name claim) ≡ true → claim.system ≡ as_system (bare (claim_name claim)) → verdict_up_to limit claim simples ≡ verdicts.Yes
unfolding verdict_up_to
void_yes limit claim simples e s =
    ap (λ b. cond b (yes_if (is_bare (claim_name claim) claim.system.equations)) (verdict_from (equation_fault limit (claim_name claim) claim.system simples) 0 claim.system.equations)) e
    ∙ ap yes_if (ap (λ (S : System). is_bare (claim_name claim) S.equations) s ∙ bare_passes (claim_name claim))

-- and otherwise where no equation of it is at fault
full_yes : (limit : ℕ) (claim : Claim) (simples : List (List ℕ)) (R : System) → is_void (claim_name claim) ≡ false → claim.system ≡ R
    → verdict_from (equation_fault limit (claim_name claim) R simples) 0 R.equations ≡ verdicts.Yes → verdict_up_to limit claim simples ≡ verdicts.Yes
unfolding verdict_up_to
full_yes limit claim simples R e s y =
    ap (λ b. cond b (yes_if (is_bare (claim_name claim) claim.system.equations)) (verdict_from (equation_fault limit (claim_name claim) claim.system simples) 0 claim.system.equations)) e
    ∙ ap (λ (S : System). verdict_from (equation_fault limit (claim_name claim) S simples) 0 S.equations) s
    ∙ y

-- the law of completeness
pub complete_law : CompleteLaw
complete_law limit claim simples S gb gq g o c h = elim (cases_Bool (is_void first)) [
  | inl e ↦
      let s : S ≡ as_system (bare first) = c.system ∙ ap as_system (grow_bare simples first limit e) in
      void_yes limit claim simples e (elim h [ inl q ↦ q ∙ s | inr q ↦ q ∙ ap lean s ∙ bare_lean first ])
  | inr e ↦
      let grown = grow_full simples first limit e in
      let s : S ≡ as_system (grow_from simples first limit) = c.system ∙ ap as_system grown in
      let fits : grown_size (grow_from simples first limit) ≤ limit = let q = ap grown_size grown in let f = c.fits in omega arith in
      let start = first_tidy claim.basis (required_of claim) gb gq e in
      elim h [
        | inl q ↦
            full_yes limit claim simples (as_system (grow_from simples first limit)) e (q ∙ s)
            (yes_of limit first (as_system (grow_from simples first limit)) simples (canonical_faultless limit first simples start fits g o limit))
        | inr q ↦ full_yes limit claim simples (lean (as_system (grow_from simples first limit))) e (q ∙ ap lean s) (lean_yes limit first simples start fits g o)
      ]
]
  where
    first : Name
    first = claim_name claim

-- the simple words below a gap are all
all_below : (basis : List (List ℕ)) (gap : ℕ) → IsGap basis gap → HoldsAllSimples basis (simples_below basis gap)
all_below basis gap h = record {
  simple = (gap_holds basis gap 0 h).simple;
  all = λ w p c. (gap_holds basis gap (length w) h).all w p c (omega arith);
}

-- the law of a class with a gap
pub check_law : CheckLaw
check_law claim gap form h = record {
  sound = sound_law MAX_SIZE claim (simples_below claim.basis gap) form (all_below claim.basis gap h);
  complete = λ S c s. complete_law MAX_SIZE claim (simples_below claim.basis gap) S form.basis form.required (gap_holds claim.basis gap 0 h).simple (gap_holds claim.basis gap 0 h).once c s;
}
