-- What bytes are, read as a claim: one claim, or no claim, with one first fault.
use Rattle.std.proofs.Common.{◌≡◌, ℕ, ◌<◌, List, length, Result, Ok, Err, refl, ap}
use Rattle.av_text.specs.declared.kind.Kind.TheVariants.{TooLong}
use Rattle.av_text.specs.Read.{Fault}
use Rattle.av_check.specs.declared.claim.Claim.{Claim}
use Rattle.av_check.specs.declared.limits.TheConstants.{MAX_CLAIM_BYTES}
use Rattle.av_check.specs.Claims.{IsClaim}
use Rattle.av_check.proofs.ClaimReading.{claim_law}
use Rattle.av_check.proofs.TakenClaims as taken_claims
use Rattle.av_session.specs.Checked.{IsTakenClaim}
use Rattle.av_session.specs.Checks.{IsTold, HasTold}

-- there is one answer
pub told_once : (bytes : List ℕ) (a b : Result Claim Fault) → IsTold bytes a → IsTold bytes b → a ≡ b
told_once bytes (Ok claim) (Ok other) p q = ap (λ c. Ok c) (claim_law.one bytes claim other p q)
told_once bytes (Ok claim) (Err fault) p q = absurd (claim_law.apart bytes claim fault.line fault.kind p q)
told_once bytes (Err fault) (Ok claim) p q = absurd (claim_law.apart bytes claim fault.line fault.kind q p)
told_once bytes (Err fault) (Err other) p q = ap (λ f. Err f) (same fault other (claim_law.one_fault bytes fault.line other.line fault.kind other.kind p q))
  where
    same : (f g : Fault) → (f.line ≡ g.line) × (f.kind ≡ g.kind) → f ≡ g
    same f g e = rw (e.0, e.1) refl

pub has_told : (bytes : List ℕ) → HasTold bytes
has_told bytes = record {
  some = λ none. claim_law.some bytes (λ claim is. none (Ok claim) is) (λ line kind is. none (Err (record { line = line; kind = kind })) is);
  one = told_once bytes;
}

-- a text that is too long
abbrev pub too_long_fault : Fault
too_long_fault = record { line = 0; kind = TooLong }

pub told_too_long : (bytes : List ℕ) → MAX_CLAIM_BYTES < length bytes → IsTold bytes (Err too_long_fault)
told_too_long bytes h = (h, refl)

-- a claim that was read can be checked
pub claim_taken : (bytes : List ℕ) (claim : Claim) → IsClaim bytes claim → IsTakenClaim claim
claim_taken bytes claim is =
    let taken = taken_claims.claim_taken bytes claim is in
    record { system = taken.system; basis = taken.basis; required = taken.required; words = (taken_claims.claim_of_words bytes claim is).basis }
