-- The law of names.
use Rattle.av_sys.proofs.MeansTests.{means_law}
use Rattle.av_sys.proofs.laws.means_law.Goals as goal

pub returns : goal.returns
returns c = means_law
