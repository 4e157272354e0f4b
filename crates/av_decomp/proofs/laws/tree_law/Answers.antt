-- The tree of a word: its decomposition, and then those of its blocks, down to points.
use Rattle.av_decomp.proofs.DecompositionTrees.{tree_law}
use Rattle.av_decomp.proofs.laws.tree_law.Goals as goal

pub returns : goal.returns
returns c = tree_law
