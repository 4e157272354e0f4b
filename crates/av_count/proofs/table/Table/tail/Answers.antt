-- The children of the term are those of its link.
use Rattle.std.proofs.Common.{◌≤◌, length, sym, ◌∙◌, ap, subst}
use Rattle.av_sys.specs.Terms.{term_at, children_of}
use Rattle.av_count.specs.Counts.{capped}
use Rattle.av_count.specs.Tables.{Stands}
use Rattle.av_count.proofs.Filled.{children_is}
use Rattle.av_count.proofs.Linked.{head_some, node_numbers, tail_ways}
use Rattle.av_count.proofs.table.Table.tail.Goals as goal

pub tail_value-requires-clause-node : goal.tail_value-requires-clause-node
tail_value-requires-clause-node c =
    let g = c.self.inside.layout in
    let n = head_some g.links (term_at g.of.value c.args.eq c.args.term) c.in-Some.link c.in-Some.ensures in
    let within = subst (λ (s : Stands). c.args.child ≤ length (children_of (term_at s.system c.args.eq c.args.term))) (sym c.self.view_is) c.requires.child in (
      n.children,
      node_numbers g.of.value c.args.eq c.args.term n.root n.children c.self.invariant.laid_out.formed n.is,
      n.node,
      subst (λ cs. c.args.child ≤ length cs) (children_is g.of.value c.args.eq c.args.term n.root n.children n.is) within,
    )

pub returns-in-Some : goal.returns-in-Some
returns-in-Some c =
    let g = c.self.inside.layout in
    let n = head_some g.links (term_at g.of.value c.args.eq c.args.term) c.in-Some.link c.in-Some.ensures in
    let within = subst (λ (s : Stands). c.args.child ≤ length (children_of (term_at s.system c.args.eq c.args.term))) (sym c.self.view_is) c.requires.child in
    rw (← c.self.view_is)
    (c.tail_value.ensures n.children (node_numbers g.of.value c.args.eq c.args.term n.root n.children c.self.invariant.laid_out.formed n.is) n.node
    (subst (λ cs. c.args.child ≤ length cs) (children_is g.of.value c.args.eq c.args.term n.root n.children n.is) within)
    ∙ ap capped (tail_ways g.of.value c.args.eq c.args.term c.args.child c.args.size n.root n.children n.is))
