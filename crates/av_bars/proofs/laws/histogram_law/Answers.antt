-- The law of histograms.
use Rattle.av_bars.proofs.Histograms.{histogram_law}
use Rattle.av_bars.proofs.laws.histogram_law.Goals as goal

pub returns : goal.returns
returns c = histogram_law
