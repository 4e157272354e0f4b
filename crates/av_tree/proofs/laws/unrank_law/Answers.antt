-- Proved in `ClassRanks`.
use Rattle.av_tree.proofs.ClassRanks as proved
use Rattle.av_tree.proofs.laws.unrank_law.Goals as goal

pub returns : goal.returns
returns c = proved.unrank_law
