-- The nodes still have what they had left at the start; each turn lessens the turns that they take.
use Rattle.std.proofs.Common.{◌≡◌}
use Rattle.av_union.specs.Nodes.{AreNodes, nodes_left, nodes_cost}
use Rattle.av_union.proofs.overlays.next_overlay.Given as goal

abbrev pub decreases-loop-node : goal.decreases-loop-node
decreases-loop-node l = nodes_cost l.pattern l.nodes.items

abbrev pub invariant-loop-node : goal.invariant-loop-node
invariant-loop-node l = record {
  nodes : AreNodes l.pattern 0 l.nodes.items;
  left : nodes_left l.pattern l.nodes.items ≡ nodes_left l.pattern l.fn.nodes.items;
}
