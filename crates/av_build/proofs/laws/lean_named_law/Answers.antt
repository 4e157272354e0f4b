-- The law, as proved.
use Rattle.av_build.proofs.LeanKeeps.{lean_named_law}
use Rattle.av_build.proofs.laws.lean_named_law.Goals as goal

pub returns : goal.returns
returns c = lean_named_law
