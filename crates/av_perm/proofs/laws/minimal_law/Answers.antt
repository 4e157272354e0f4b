-- Minimal words: what is sorted and sieved by containment, and each word contains a minimal one.
use Rattle.av_perm.proofs.Classes.{minimal_holds}
use Rattle.av_perm.proofs.laws.minimal_law.Goals as goal

pub returns : goal.returns
returns c basis = minimal_holds basis
