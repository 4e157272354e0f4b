-- The first child, and those after it.
use Rattle.av_count.proofs.Linked.{adds_node}
use Rattle.av_count.proofs.links.Links.node.Goals as goal

pub returns : goal.returns
returns c = adds_node c.args.self.now c.rest.new.self c.args.children.now c.equation-first.result c.in_ok-rest.rest c.equation-first.ensures c.in_ok-rest.ensures
