-- The law of exactness of the lean system.
use Rattle.av_build.proofs.LeanExact.{lean_exact_law}
use Rattle.av_build.proofs.laws.lean_exact_law.Goals as goal

pub returns : goal.returns
returns c = lean_exact_law
