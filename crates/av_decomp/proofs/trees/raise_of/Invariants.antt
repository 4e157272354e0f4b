-- What the blocks before the loop's place add.
use Rattle.std.proofs.Common.{◌≡◌, map, take}
use Rattle.av_perm.specs.Inflate.{points_below}
use Rattle.av_decomp.specs.Trees.{value}
use Rattle.av_decomp.proofs.trees.raise_of.Given as goal

abbrev pub invariant-loop-k : goal.invariant-loop-k
invariant-loop-k l = l.lower ≡ points_below l.entry (take l.k l.root) (take l.k (map value l.blocks))
