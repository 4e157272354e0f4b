-- The class with required words: the test of the class, and of all required words by containment.
use Rattle.av_perm.proofs.Classes.{class_with_holds}
use Rattle.av_perm.proofs.laws.class_with_law.Goals as goal

pub returns : goal.returns
returns c basis required w = class_with_holds basis required w
