-- The node on top gives its word where it lacks no entry; else it takes a choice.
use Rattle.std.proofs.Common.{◌∙◌, arith}
use Rattle.av_union.proofs.Nodes.{nodes_popped, whole_next, cost_popped, left_popped}
use Rattle.av_union.proofs.overlays.next_overlay.Goals as goal

pub returns-then-len-clause-nodes : goal.returns-then-len-clause-nodes
returns-then-len-clause-nodes c = (nodes_popped c.args.pattern.now c.loop-node.nodes.items c.pop.new.self.items c.in-Some.node c.in-Some.ensures.items c.loop-node.invariant.nodes).0

pub returns-then-len-clause-next : goal.returns-then-len-clause-next
returns-then-len-clause-next c =
    whole_next c.args.pattern.now c.loop-node.nodes.items c.args.nodes.now.items c.pop.new.self.items c.in-Some.node c.in-Some.ensures.items
    (omega (arith, c.if-len.true, c.len.ensures.value, c.len-in-Some.ensures.value)) c.loop-node.invariant.left

pub take_choice-requires-clause-nodes : goal.take_choice-requires-clause-nodes
take_choice-requires-clause-nodes c = (nodes_popped c.args.pattern.now c.loop-node.nodes.items c.pop.new.self.items c.in-Some.node c.in-Some.ensures.items c.loop-node.invariant.nodes).0

pub take_choice-requires-clause-node : goal.take_choice-requires-clause-node
take_choice-requires-clause-node c = (nodes_popped c.args.pattern.now c.loop-node.nodes.items c.pop.new.self.items c.in-Some.node c.in-Some.ensures.items c.loop-node.invariant.nodes).1

pub take_choice-requires-clause-unfinished : goal.take_choice-requires-clause-unfinished
take_choice-requires-clause-unfinished c =
    let n = (nodes_popped c.args.pattern.now c.loop-node.nodes.items c.pop.new.self.items c.in-Some.node c.in-Some.ensures.items c.loop-node.invariant.nodes).1 in
    omega (arith, n.places, n.within, c.if-len.false, c.len.ensures.value, c.len-in-Some.ensures.value)

pub loop-node-smaller : goal.loop-node-smaller
loop-node-smaller c =
    omega (arith, c.take_choice.ensures.less, cost_popped c.args.pattern.now c.loop-node.nodes.items c.pop.new.self.items c.in-Some.node c.in-Some.ensures.items)

pub loop-node-preserved : goal.loop-node-preserved
loop-node-preserved c = record {
  nodes = c.take_choice.ensures.nodes;
  left = c.take_choice.ensures.left ∙ left_popped c.args.pattern.now c.loop-node.nodes.items c.pop.new.self.items c.in-Some.node c.in-Some.ensures.items ∙ c.loop-node.invariant.left;
}
