-- The law, as proved.
use Rattle.av_build.proofs.AliveMarks.{alive_law}
use Rattle.av_build.proofs.laws.alive_law.Goals as goal

pub returns : goal.returns
returns c = alive_law
