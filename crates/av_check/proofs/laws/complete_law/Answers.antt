-- The law, from its proof.
use Rattle.av_check.proofs.ClassChecks.{complete_law}
use Rattle.av_check.proofs.laws.complete_law.Goals as goal

pub returns : goal.returns
returns c = complete_law
