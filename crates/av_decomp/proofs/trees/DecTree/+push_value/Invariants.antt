-- The blocks before the loop's place stand one after another, raised.
use Rattle.std.proofs.Common.{◌≡◌, ◌++◌, map}
use Rattle.av_perm.specs.Relations.{joined}
use Rattle.av_decomp.specs.Trees.{value}
use Rattle.av_decomp.proofs.FormedTrees.{lifted}
use Rattle.av_decomp.proofs.trees.DecTree.+push_value.Given as goal

abbrev pub decreases-push_value : goal.decreases-push_value
decreases-push_value l = goal.size-push_value l

abbrev pub invariant-loop-i : goal.invariant-loop-i
invariant-loop-i l = l.entries.items ≡ l.fn.entries.items ++ joined (lifted l.raise l.root (map value l.self-inside.blocks.items)) l.i
