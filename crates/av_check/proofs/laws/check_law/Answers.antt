-- The law, from its proof.
use Rattle.av_check.proofs.ClassChecks.{check_law}
use Rattle.av_check.proofs.laws.check_law.Goals as goal

pub returns : goal.returns
returns c = check_law
