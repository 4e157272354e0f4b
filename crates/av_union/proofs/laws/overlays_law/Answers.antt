-- The law of overlays.
use Rattle.av_union.proofs.GrownWords.{overlays_law}
use Rattle.av_union.proofs.laws.overlays_law.Goals as goal

pub returns : goal.returns
returns c = overlays_law
