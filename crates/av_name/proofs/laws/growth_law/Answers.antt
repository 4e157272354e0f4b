-- The law of growing constraints.
use Rattle.av_name.proofs.Growth.{growth_law}
use Rattle.av_name.proofs.laws.growth_law.Goals as goal

pub returns : goal.returns
returns c = growth_law
