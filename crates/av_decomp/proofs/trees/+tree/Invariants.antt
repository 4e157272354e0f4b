-- The trees of the blocks at the spans before the loop's. Blocks are shorter than the word.
use Rattle.std.proofs.Common.{◌≡◌, length, map, take}
use Rattle.av_decomp.specs.Blocks.{blocks_at}
use Rattle.av_decomp.specs.Trees.{dec}
use Rattle.av_decomp.proofs.trees.+tree.Given as goal

abbrev pub decreases-tree : goal.decreases-tree
decreases-tree l = length l.word.now

abbrev pub invariant-loop-span : goal.invariant-loop-span
invariant-loop-span l = l.blocks.items ≡ map dec (blocks_at l.word (take l.span-index l.span-items))
