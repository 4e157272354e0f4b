-- The law, as proved.
use Rattle.av_build.proofs.LeanNumbering.{is_lean_law}
use Rattle.av_build.proofs.laws.is_lean_law.Goals as goal

pub returns : goal.returns
returns c = is_lean_law
