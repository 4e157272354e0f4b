-- A node has two children or more, and its link.
use Rattle.std.proofs.Common.{◌∙◌, ap, Some}
use Rattle.av_count.proofs.NodeForms.{node_form}
use Rattle.av_count.proofs.Linked.{adds_head}
use Rattle.av_count.proofs.layout.add_head.Goals as goal

pub node-requires : goal.node-requires
node-requires c = (node_form c.args.system.now c.args.eq c.args.t c.in-Node.root c.in-Node.children c.requires.formed (c.term.ensures ∙ ap Some c.in-Node.is)).two

pub returns-in_ok-node-in-Node : goal.returns-in_ok-node-in-Node
returns-in_ok-node-in-Node c =
    adds_head c.args.system.now c.args.eq c.args.t c.in-Node.root c.in-Node.children c.args.links.now c.node.new.self c.in_ok-node-in-Node.field-0
    c.requires.formed (c.term.ensures ∙ ap Some c.in-Node.is) c.requires.links c.in_ok-node-in-Node.ensures
