-- The law, from its proof.
use Rattle.av_check.proofs.ClaimReading as claims
use Rattle.av_check.proofs.laws.claim_law.Goals as goal

pub returns : goal.returns
returns c = claims.claim_law
