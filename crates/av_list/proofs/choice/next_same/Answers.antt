-- The next sizes make the next vertex with the same term.
use Rattle.std.proofs.Common.{◌≡◌, ◌<◌, length, subst, sym, ap, arith, ◌∙◌, get_or, Some}
use Rattle.av_sys.specs.declared.terms.System.{System}
use Rattle.av_sys.specs.Terms.{terms_at, term_at, children_of}
use Rattle.av_sys.specs.TreeLists.{count_at}
use Rattle.av_count.proofs.NodeForms.{node_form}
use Rattle.av_list.specs.Sizes.{Firsts, weighed, weight, sizes_after}
use Rattle.av_list.specs.Vertices.{vertices_after}
use Rattle.av_list.specs.Picked.{Picked}
use Rattle.av_list.proofs.Choosing.{whole_some, picked_same, same_ended}
use Rattle.av_list.proofs.choice.next_same.Goals as goal

pub invariant_of-node-clause-term_known : goal.invariant_of-node-clause-term_known
invariant_of-node-clause-term_known c =
    subst (λ (S : System). c.args.vertex.term < length (terms_at S c.args.vertex.equation)) (sym c.requires.stands) c.requires.sound.term

pub invariant_of-node-clause-node : goal.invariant_of-node-clause-node
invariant_of-node-clause-node c =
    subst (λ (S : System). children_of (term_at S c.args.vertex.equation c.args.vertex.term) ≡ c.in-Node.children) (sym c.requires.stands)
    (ap children_of (c.term.ensures ∙ ap Some c.in-Node.is))

pub invariant_of-node-clause-known : goal.invariant_of-node-clause-known
invariant_of-node-clause-known c k lt =
    let e = c.term.ensures ∙ ap Some c.in-Node.is in
    subst (λ (S : System). get_or c.in-Node.children k 0 < length S.equations) (sym c.requires.stands)
    ((node_form c.args.system.now c.args.vertex.equation c.args.vertex.term c.in-Node.root c.in-Node.children c.requires.formed e).known k lt)

pub invariant_of-node-clause-few : goal.invariant_of-node-clause-few
invariant_of-node-clause-few c =
    (node_form c.args.system.now c.args.vertex.equation c.args.vertex.term c.in-Node.root c.in-Node.children c.requires.formed (c.term.ensures ∙ ap Some c.in-Node.is)).few

pub next_sizes-requires-clause-sum : goal.next_sizes-requires-clause-sum
next_sizes-requires-clause-sum c =
    let e = c.term.ensures ∙ ap Some c.in-Node.is in
    let g = node_form c.args.system.now c.args.vertex.equation c.args.vertex.term c.in-Node.root c.in-Node.children c.requires.formed e in
    let m : length c.args.vertex.sizes ≡ length c.in-Node.children = c.requires.sound.many ∙ ap (λ o. length (children_of o)) e in
    sym (whole_some c.args.vertex.sizes (omega (arith, m, g.two))) ∙ c.requires.sound.sum

pub returns-then-next_sizes : goal.returns-then-next_sizes
returns-then-next_sizes c =
    let e = c.term.ensures ∙ ap Some c.in-Node.is in
    let g = node_form c.args.system.now c.args.vertex.equation c.args.vertex.term c.in-Node.root c.in-Node.children c.requires.formed e in
    let h = c.next_sizes.ensures.moved c.if-next_sizes.true in
    subst (λ z. Picked c.args.system.now c.args.vertex.equation c.args.vertex.size 1 (vertices_after c.args.system.now c.args.vertex) 0 (record { equation = c.args.vertex.equation; term = c.args.vertex.term; size = c.args.vertex.size; sizes = z }) 0) (sym h.1)
    (picked_same c.args.system.now c.args.vertex c.in-Node.root c.in-Node.children h.0 c.requires.sound.term e (omega (arith, g.two))
    (subst (λ (S : System). Firsts (count_at S) c.in-Node.children c.args.vertex.size 1 (sizes_after c.args.vertex.sizes c.args.vertex.size) 0 h.0 0) c.requires.stands h.2))

pub returns-else-next_sizes : goal.returns-else-next_sizes
returns-else-next_sizes c =
    let e = c.term.ensures ∙ ap Some c.in-Node.is in
    same_ended c.args.system.now c.args.vertex c.in-Node.root c.in-Node.children e
    (subst (λ (S : System). weighed (weight (count_at S) c.in-Node.children) (sizes_after c.args.vertex.sizes c.args.vertex.size) ≡ 0) c.requires.stands (c.next_sizes.ensures.ended c.if-next_sizes.false))
