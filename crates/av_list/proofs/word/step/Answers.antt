-- A node writes nothing, and raises its children.
use Rattle.std.proofs.Common.{reverse, ◌∙◌, ap, sym, Some, subst}
use Rattle.av_list.specs.Derivations.{Writing}
use Rattle.av_list.proofs.Writing.{step_node}
use Rattle.av_list.proofs.word.step.Goals as goal

pub add_raises-requires-clause-many : goal.add_raises-requires-clause-many
add_raises-requires-clause-many c =
    let w = c.requires.writing in
    (step_node c.args.system.now c.requires.formed c.in-Some.raise c.args.raised.now.items c.pop.new.self.items c.args.vertex.now w.0 c.args.out.now.items w.1 c.in-Node.root c.in-Node.children c.in-Some.ensures.items (c.term.ensures ∙ ap Some c.in-Node.is) w.2).0

pub add_raises-requires-clause-most : goal.add_raises-requires-clause-most
add_raises-requires-clause-most c =
    let w = c.requires.writing in
    (step_node c.args.system.now c.requires.formed c.in-Some.raise c.args.raised.now.items c.pop.new.self.items c.args.vertex.now w.0 c.args.out.now.items w.1 c.in-Node.root c.in-Node.children c.in-Some.ensures.items (c.term.ensures ∙ ap Some c.in-Node.is) w.2).1

pub add_raises-requires-clause-room : goal.add_raises-requires-clause-room
add_raises-requires-clause-room c =
    let w = c.requires.writing in
    (step_node c.args.system.now c.requires.formed c.in-Some.raise c.args.raised.now.items c.pop.new.self.items c.args.vertex.now w.0 c.args.out.now.items w.1 c.in-Node.root c.in-Node.children c.in-Some.ensures.items (c.term.ensures ∙ ap Some c.in-Node.is) w.2).2

pub returns-in-Node : goal.returns-in-Node
returns-in-Node c xs word h =
    subst (λ z. Writing c.args.system.now (reverse z) xs c.args.out.now.items word) (sym c.add_raises.ensures)
    (step_node c.args.system.now c.requires.formed c.in-Some.raise c.args.raised.now.items c.pop.new.self.items c.args.vertex.now xs c.args.out.now.items word c.in-Node.root c.in-Node.children c.in-Some.ensures.items (c.term.ensures ∙ ap Some c.in-Node.is) h).3
