-- The law of equal histograms.
use Rattle.av_bars.proofs.DistributionLaws.{same_histogram_law}
use Rattle.av_bars.proofs.laws.same_histogram_law.Goals as goal

pub returns : goal.returns
returns c = same_histogram_law
