-- The law of distributions.
use Rattle.av_bars.proofs.DistributionLaws.{distribution_law}
use Rattle.av_bars.proofs.laws.distribution_law.Goals as goal

pub returns : goal.returns
returns c = distribution_law
