-- The law, as proved.
use Rattle.av_build.proofs.LeanKeeps.{lean_members_law}
use Rattle.av_build.proofs.laws.lean_members_law.Goals as goal

pub returns : goal.returns
returns c = lean_members_law
