-- The entries of the block before the loop's place stand at the end, raised.
use Rattle.std.proofs.Common.{◌≡◌, ◌++◌, take}
use Rattle.av_perm.specs.Inflate.{raised}
use Rattle.av_perm.proofs.inflation.push_raised.Given as goal

abbrev pub invariant-loop-entry : goal.invariant-loop-entry
invariant-loop-entry l = l.entries.items ≡ l.fn.entries.items ++ raised l.raise (take l.entry-index l.block)
