-- Patterns: the number of lesser entries tells the relative order, and nothing else does.
use Rattle.av_perm.proofs.Containment.{pattern_law}
use Rattle.av_perm.proofs.laws.pattern_law.Goals as goal

pub returns : goal.returns
returns c = pattern_law
