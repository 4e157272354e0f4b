-- The law is proved in InflationLaws.
use Rattle.av_dist.proofs.InflationLaws.{inflation_statistics_law}
use Rattle.av_dist.proofs.laws.inflation_statistics_law.Goals as goal

pub returns : goal.returns
returns c = inflation_statistics_law
