-- The verdict, part by part.
use Rattle.std.proofs.Common.{◌≡◌, ℕ, suc, ◌+◌, List, ◌∷◌, slice_get, drop, true, false, cond, All, Option, Some, None, Result, Ok, Err, IfOk, sym, ap, ◌∙◌, add-one}
use Rattle.std.proofs.Math.Seq.{drop-cons}
use Rattle.std.proofs.lemmas.Option.{slice_get_within, get_or_from_slice_get}
use Rattle.av_perm.specs.declared.words.Memory.{Memory}
use Rattle.av_perm.specs.Word.{ArePerms}
use Rattle.av_perm.proofs.Membership.{all_each}
use Rattle.av_perm.proofs.PermWords.{perms_words}
use Rattle.av_sys.specs.declared.names.Name.{Name}
use Rattle.av_sys.specs.declared.terms.Equation.{Equation}
use Rattle.av_sys.specs.Names.{IsMadeOfWords}
use Rattle.av_build.specs.declared.limits.TheConstants.{MAX_SIZE}
use Rattle.av_build.specs.Canonical.{is_void}
use Rattle.av_build.proofs.HeldWords.{are_words}
use Rattle.av_check.specs.declared.claim.Claim.{Claim}
use Rattle.av_check.specs.declared.fault.Fault.{Fault}
use Rattle.av_check.specs.declared.verdict.Verdict.{Verdict}
use Rattle.av_check.specs.declared.verdict.Verdict.TheVariants as verdicts
use Rattle.av_check.specs.Verdicts.{required_of, claim_name, equation_fault, verdict_of, verdict_or, verdict_from, is_bare, yes_if, verdict_up_to, verdict}
use Rattle.av_check.specs.Laws.{IsClaimOfWords, HoldsAllSimples, IsRightClaim}
use Rattle.av_check.specs.Checks.{IsTaken}
use Rattle.av_check.proofs.Soundness.{sound_law}

-- the equations from a number on
module _ (f : ℕ → Equation → Option Fault) (es : List Equation) (u : ℕ) (e : Equation) (here : slice_get es u ≡ Some e) where
  first_left : drop u es ≡ e ∷ drop (u + 1) es
  first_left = drop-cons es u e (slice_get_within es u e here) ∙ ap (λ d. d ∷ drop (suc u) es) (get_or_from_slice_get es u e e here) ∙ ap (λ k. e ∷ drop k es) (sym (add-one u))

  from_here : verdict_from f u (drop u es) ≡ verdict_or u (f u e) (verdict_from f (suc u) (drop (u + 1) es))
  from_here = ap (verdict_from f u) first_left

  -- one without a fault is passed over
  pub equation_passed : (o : Option Fault) → o ≡ f u e → o ≡ None → verdict_from f u (drop u es) ≡ verdict_from f 0 es → verdict_from f (u + 1) (drop (u + 1) es) ≡ verdict_from f 0 es
  equation_passed o is none left =
      ap (λ k. verdict_from f k (drop (u + 1) es)) (add-one u)
      ∙ sym (ap (λ x. verdict_or u x (verdict_from f (suc u) (drop (u + 1) es))) (sym is ∙ none))
      ∙ sym from_here ∙ left

  -- and one with a fault ends
  pub equation_ends : (o : Option Fault) (fault : Fault) → o ≡ f u e → o ≡ Some fault → verdict_from f u (drop u es) ≡ verdict_from f 0 es → verdict_of u fault ≡ verdict_from f 0 es
  equation_ends o fault is some left = sym (ap (λ x. verdict_or u x (verdict_from f (suc u) (drop (u + 1) es))) (sym is ∙ some)) ∙ sym from_here ∙ left

-- the verdict where no word means the name of the claim
pub void_verdict : (claim : Claim) (roots : List (List ℕ)) (first : Name) (found : Verdict) → first ≡ claim_name claim → is_void first ≡ true → found ≡ yes_if (is_bare first claim.system.equations) → found ≡ verdict claim roots
unfolding verdict_up_to
void_verdict claim roots first found e v is =
    is ∙ ap (λ n. yes_if (is_bare n claim.system.equations)) e
    ∙ sym (ap (λ b. cond b (yes_if (is_bare (claim_name claim) claim.system.equations)) (verdict_from (equation_fault MAX_SIZE (claim_name claim) claim.system roots) 0 claim.system.equations)) (ap is_void (sym e) ∙ v))

-- and otherwise
full_verdict : (claim : Claim) (roots : List (List ℕ)) (first : Name) (found : Verdict) → first ≡ claim_name claim → is_void first ≡ false
    → found ≡ verdict_from (equation_fault MAX_SIZE first claim.system roots) 0 claim.system.equations → found ≡ verdict claim roots
unfolding verdict_up_to
full_verdict claim roots first found e v is =
    is ∙ ap (λ n. verdict_from (equation_fault MAX_SIZE n claim.system roots) 0 claim.system.equations) e
    ∙ sym (ap (λ b. cond b (yes_if (is_bare (claim_name claim) claim.system.equations)) (verdict_from (equation_fault MAX_SIZE (claim_name claim) claim.system roots) 0 claim.system.equations)) (ap is_void (sym e) ∙ v))

-- unless memory is wanting
pub full_checked : (claim : Claim) (roots : List (List ℕ)) (first : Name) (r : Result Verdict Memory) → first ≡ claim_name claim → is_void first ≡ false
    → IfOk r (λ found. found ≡ verdict_from (equation_fault MAX_SIZE first claim.system roots) 0 claim.system.equations) → IfOk r (λ found. found ≡ verdict claim roots)
full_checked claim roots first (Err x) e v is = tt
full_checked claim roots first (Ok found) e v is = full_verdict claim roots first found e v is

-- a claim whose lists their types hold
pub is_claim : (claim : Claim) → IsTaken claim.system → ArePerms claim.basis → ArePerms (required_of claim) → All (λ (e : Equation). IsMadeOfWords e.name) claim.system.equations → IsClaimOfWords claim
is_claim claim taken basis required named = record {
  form = taken.form;
  basis = are_words claim.basis basis;
  required = are_words (required_of claim) required;
  names = λ e i.
      let m = all_each (λ (e : Equation). IsMadeOfWords e.name) claim.system.equations named e i in
      record { avoids = perms_words e.name.avoid m.avoided; requires = perms_words e.name.require m.required };
}

-- so a yes is right
pub yes_right : (claim : Claim) (roots : List (List ℕ)) (found : Verdict) → IsClaimOfWords claim → found ≡ verdict claim roots → found ≡ verdicts.Yes → HoldsAllSimples claim.basis roots → IsRightClaim claim
yes_right claim roots found c is e held = sound_law MAX_SIZE claim roots c held (sym is ∙ e)

-- unless memory is wanting
pub right_checked : (claim : Claim) (roots : List (List ℕ)) (r : Result Verdict Memory) → IsClaimOfWords claim → IfOk r (λ found. found ≡ verdict claim roots)
    → IfOk r (λ found. found ≡ verdicts.Yes → HoldsAllSimples claim.basis roots → IsRightClaim claim)
right_checked claim roots (Err x) c is = tt
right_checked claim roots (Ok found) c is = yes_right claim roots found c is
