-- The sizes before this one leave no trees.
use Rattle.std.proofs.Common.{◌≡◌, ◌+◌, ◌-◌, drop, get_or}
use Rattle.av_count.specs.Choices.{ways, ahead}
use Rattle.av_sys.specs.TreeLists.{count_at}
use Rattle.av_list.proofs.sizes.search_size.Given as goal

abbrev pub invariant-loop-below : goal.invariant-loop-below
invariant-loop-below l = ahead (count_at l.node.table.now.system (get_or l.node.children.now l.i 0)) (ways (count_at l.node.table.now.system) (drop (l.i + 1) l.node.children.now)) l.size l.least (l.below + 1 - l.least) ≡ 0
