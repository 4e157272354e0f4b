-- The law, as proved.
use Rattle.av_build.proofs.LeanKeeps.{lean_alive_law}
use Rattle.av_build.proofs.laws.lean_alive_law.Goals as goal

pub returns : goal.returns
returns c = lean_alive_law
