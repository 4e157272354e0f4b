-- The blocks at the spans before the loop's.
use Rattle.std.proofs.Common.{◌≡◌, take}
use Rattle.av_decomp.specs.Blocks.{blocks_at}
use Rattle.av_tree.proofs.blocks.blocks_of.Given as goal

abbrev pub invariant-loop-span : goal.invariant-loop-span
invariant-loop-span l = l.blocks.items ≡ blocks_at l.word (take l.span-index l.span-items)
