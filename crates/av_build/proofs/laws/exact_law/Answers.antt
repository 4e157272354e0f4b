-- The law of exactness at every size.
use Rattle.av_build.proofs.ExactAlways.{exact_law}
use Rattle.av_build.proofs.laws.exact_law.Goals as goal

pub returns : goal.returns
returns c = exact_law
