-- The parts that are found: one way of cutting the word passes, and what passes is its decomposition.
use Rattle.av_perm.proofs.Parts.{parts_law}
use Rattle.av_perm.proofs.laws.parts_law.Goals as goal

pub returns : goal.returns
returns c = parts_law
