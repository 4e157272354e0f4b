-- The node goes back without the choice, with the node of what grows by it on top where the pattern may go on so.
use Rattle.std.proofs.Common.{length, refl, sym, ap, ◌∙◌, subst}
use Rattle.av_union.specs.declared.partials.Partial.{Partial}
use Rattle.av_union.specs.declared.overlays.Node.{Node}
use Rattle.av_union.specs.Choices.{choices}
use Rattle.av_union.specs.Partials.{Takes}
use Rattle.av_union.proofs.Nodes.{IsNodeOf, takes_none, takes_one, takes_two}
use Rattle.av_union.proofs.overlays.take_choice.Goals as goal

pub returns-in_default : goal.returns-in_default
returns-in_default c =
    takes_none c.args.pattern.now c.args.node c.args.nodes.now.items c.requires.nodes c.requires.node c.requires.unfinished c.in_default.ensures.steps.0

pub returns-in-None : goal.returns-in-None
returns-in-None c =
    let rest : Node = record { partial = c.args.node.partial; choices = c.next.new.self } in
    takes_one c.args.pattern.now c.args.node rest c.in-Some.choice c.args.nodes.now.items c.push.new.self.items c.requires.nodes c.requires.node c.requires.unfinished
    (refl, c.in-Some.ensures.steps) c.in-None.ensures c.push.ensures.items

pub returns-in-Some-part : goal.returns-in-Some-part
returns-in-Some-part c =
    let rest : Node = record { partial = c.args.node.partial; choices = c.next.new.self } in
    let grown = c.in-Some-part.ensures in
    let same = sym c.of.ensures.partial in
    let node_of : IsNodeOf c.args.pattern.now c.args.node c.in-Some.choice c.of.result = (
      grown.0,
      subst (Takes c.args.node.partial c.in-Some.choice) same grown.1,
      c.of.ensures.choices ∙ ap (λ (z : Partial). choices (length z.word)) same,
    ) in
    takes_two c.args.pattern.now c.args.node rest c.of.result c.in-Some.choice c.args.nodes.now.items c.push.new.self.items c.push-in-Some-part.new.self.items
    c.requires.nodes c.requires.node c.requires.unfinished (refl, c.in-Some.ensures.steps) node_of c.push.ensures.items c.push-in-Some-part.ensures.items
