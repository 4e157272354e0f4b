-- The class of a basis: the test of all its words by containment.
use Rattle.av_perm.proofs.Classes.{class_from, class_to}
use Rattle.av_perm.proofs.laws.class_law.Goals as goal

pub returns : goal.returns
returns c basis w = (class_from basis w, class_to basis w)
