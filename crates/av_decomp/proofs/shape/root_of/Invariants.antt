-- The first entries of the spans before the loop's.
use Rattle.std.proofs.Common.{◌≡◌, take}
use Rattle.av_decomp.specs.Blocks.{first_entries}
use Rattle.av_decomp.proofs.shape.root_of.Given as goal

abbrev pub invariant-loop-span : goal.invariant-loop-span
invariant-loop-span l = l.firsts.items ≡ first_entries l.word (take l.span-index l.span-items)
