-- The blocks before the loop's mean the names.
use Rattle.std.proofs.Common.{ℕ, ◌<◌, get_or}
use Rattle.av_perm.specs.Relations.{block}
use Rattle.av_sys.specs.Exact.{MeansAt}
use Rattle.av_tree.proofs.tops.all_mean.Given as goal

abbrev pub invariant-loop-i : goal.invariant-loop-i
invariant-loop-i l = (j : ℕ) → j < l.i → MeansAt l.system (get_or l.children j 0) (block l.blocks j)
