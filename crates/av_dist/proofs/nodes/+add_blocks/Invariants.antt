-- The totals of the sizes before the loop's are added. A call chooses the size of one child more.
use Rattle.std.proofs.Common.{◌-◌, length}
use Rattle.av_dist.specs.Rows.{how_often, Adds}
use Rattle.av_dist.proofs.TotalSteps.{left_below}
use Rattle.av_dist.proofs.nodes.+add_blocks.Given as goal

abbrev pub decreases-add_blocks : goal.decreases-add_blocks
decreases-add_blocks l = length l.node.now.children.now - length l.sizes.now

abbrev pub invariant-loop-size : goal.invariant-loop-size
invariant-loop-size l = Adds (how_often (left_below l.node.levels.now l.node.root.now l.node.children.now l.sizes l.left l.size)) l.fn.out l.out
