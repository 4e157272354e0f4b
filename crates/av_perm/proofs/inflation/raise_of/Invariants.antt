-- What the blocks before the loop's place add.
use Rattle.std.proofs.Common.{◌≡◌, take}
use Rattle.av_perm.specs.Inflate.{points_below}
use Rattle.av_perm.proofs.inflation.raise_of.Given as goal

abbrev pub invariant-loop-k : goal.invariant-loop-k
invariant-loop-k l = l.raise ≡ points_below l.entry (take l.k l.root) (take l.k l.blocks)
