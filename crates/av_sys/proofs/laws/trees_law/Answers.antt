-- The law of the lists of trees.
use Rattle.av_sys.proofs.TreesOnce.{trees_law}
use Rattle.av_sys.proofs.laws.trees_law.Goals as goal

pub returns : goal.returns
returns c = trees_law
