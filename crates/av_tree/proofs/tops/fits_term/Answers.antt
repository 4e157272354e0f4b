-- A node with the root has a child for each block.
use Rattle.std.proofs.Common.{List, ℕ, length, sym, ap, ◌∙◌, Some}
use Rattle.av_perm.specs.WordOrder.{word_same}
use Rattle.av_count.proofs.NodeForms.{node_form}
use Rattle.av_tree.proofs.tops.fits_term.Goals as goal

pub all_mean-requires-clause-known : goal.all_mean-requires-clause-known
all_mean-requires-clause-known c =
    (node_form c.args.system.now c.args.eq c.args.t c.in-Node.own c.in-Node.children c.requires.formed (c.term.ensures ∙ ap Some c.in-Node.is)).known

pub all_mean-requires-clause-count : goal.all_mean-requires-clause-count
all_mean-requires-clause-count c =
    let g = node_form c.args.system.now c.args.eq c.args.t c.in-Node.own c.in-Node.children c.requires.formed (c.term.ensures ∙ ap Some c.in-Node.is) in
    sym g.long ∙ ap (λ (v : List ℕ). length v) (word_same c.in-Node.own c.args.root.now (sym c.eq.ensures ∙ c.if-eq.true)) ∙ sym c.requires.count
