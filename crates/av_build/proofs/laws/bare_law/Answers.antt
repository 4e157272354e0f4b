-- The law of bare systems.
use Rattle.av_build.proofs.BareSystems.{bare_law}
use Rattle.av_build.proofs.laws.bare_law.Goals as goal

pub returns : goal.returns
returns c = bare_law
