-- Maximal words: what is sorted and sieved by containment, and containment has no circle.
use Rattle.av_perm.proofs.Classes.{maximal_holds}
use Rattle.av_perm.proofs.laws.maximal_law.Goals as goal

pub returns : goal.returns
returns c required = maximal_holds required
