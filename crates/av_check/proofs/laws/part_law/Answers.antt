-- The law, from its proof.
use Rattle.av_check.proofs.RootLeaves.{part_law}
use Rattle.av_check.proofs.laws.part_law.Goals as goal

pub returns : goal.returns
returns c = part_law
