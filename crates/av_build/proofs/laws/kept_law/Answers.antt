-- The law, as proved.
use Rattle.av_build.proofs.LeanKeeps.{kept_law}
use Rattle.av_build.proofs.laws.kept_law.Goals as goal

pub returns : goal.returns
returns c = kept_law
