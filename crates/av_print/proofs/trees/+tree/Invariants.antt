-- Each call is at a block, or at the same tree; the loop has written all of the text but the blocks from i on.
use Rattle.std.proofs.Common.{◌≤◌, ◌-◌, ◌+◌, ◌*◌}
use Rattle.av_decomp.specs.RootTrees.{nodes}
use Rattle.av_print.proofs.TreeTexts.{others_from}
use Rattle.av_print.proofs.Written.{AppendsUpTo}
use Rattle.av_print.proofs.trees.+tree.Given as goal

abbrev pub decreases-put_tree : goal.decreases-put_tree
decreases-put_tree g l = 2 * nodes l.tree.now + 1

abbrev pub decreases-put_others : goal.decreases-put_others
decreases-put_others g l = 2 * nodes l.tree.now

abbrev pub invariant-put_others-loop-i : goal.invariant-put_others-loop-i
invariant-put_others-loop-i g l = record {
  written : AppendsUpTo (g.K.Sink.held l.fn.sink) (g.K.Sink.held l.sink) (others_from l.tree 1) (others_from l.tree (l.i - 1));
  faults : g.K.Sink.faults l.fn.sink ≤ g.K.Sink.faults l.sink;
  wants : g.K.Sink.wants l.fn.sink ≤ g.K.Sink.wants l.sink;
}
