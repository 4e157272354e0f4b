-- A claim that was read can be checked.
use Rattle.std.proofs.Common.{ℕ, ◌≤◌, List, length}
use Rattle.av_perm.specs.declared.limits.TheConstants.{MAX_PATTERN_LENGTH}
use Rattle.av_sys.specs.declared.terms.Equation.{Equation}
use Rattle.av_perm.proofs.MinimalWords.{each_words}
use Rattle.av_perm.proofs.Membership.{each_all}
use Rattle.av_check.specs.declared.claim.Claim.{Claim}
use Rattle.av_check.specs.Claims.{ArePatterns, IsClaim}
use Rattle.av_check.specs.Verdicts.{required_of}
use Rattle.av_perm.specs.Relations.{AreWords}
use Rattle.av_check.specs.Laws.{IsClaimOfWords}
use Rattle.av_check.specs.Checks.{AreShort, IsShortName, IsTaken}
use Rattle.av_check.proofs.ClaimReading.{claim_law}

-- what `check` takes
pub record CanBeChecked (claim : Claim) : Type 0 where
  pub system : IsTaken claim.system
  pub basis : AreShort claim.basis
  pub required : AreShort (required_of claim)

patterns_short : (ws : List (List ℕ)) → ArePatterns ws → AreShort ws
patterns_short ws h = each_all (λ w. length w ≤ MAX_PATTERN_LENGTH) ws (λ w i. (h w i).short)

pub claim_taken : (bytes : List ℕ) (claim : Claim) → IsClaim bytes claim → CanBeChecked claim
claim_taken bytes claim is =
    let within = claim_law.limits bytes claim is in
    record {
      system = record {
        form = within.formed;
        names = each_all (λ (e : Equation). IsShortName e.name) claim.system.equations (λ e i.
            let n = within.named e i in
            record { avoid = patterns_short e.name.avoid n.avoided; require = patterns_short e.name.require n.required });
      };
      basis = patterns_short claim.basis within.basis_words;
      required = patterns_short (required_of claim) within.words_required;
    }

-- and its lists are of words
patterns_words : (ws : List (List ℕ)) → ArePatterns ws → AreWords ws
patterns_words ws h = each_words ws (λ w i. (h w i).word)

pub claim_of_words : (bytes : List ℕ) (claim : Claim) → IsClaim bytes claim → IsClaimOfWords claim
claim_of_words bytes claim is =
    let within = claim_law.limits bytes claim is in
    record {
      form = within.formed;
      basis = patterns_words claim.basis within.basis_words;
      required = patterns_words (required_of claim) within.words_required;
      names = λ e i. let n = within.named e i in record { avoids = λ w j. (n.avoided w j).word; requires = λ w j. (n.required w j).word };
    }
