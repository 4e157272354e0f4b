-- The law, from its proof.
use Rattle.av_check.proofs.ClaimTexts as texts
use Rattle.av_check.proofs.laws.claim_text_law.Goals as goal

pub returns : goal.returns
returns c = texts.claim_text_law
