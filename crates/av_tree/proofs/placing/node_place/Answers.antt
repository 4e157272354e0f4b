-- The trees of the terms before come first, then the place among those of this term.
use Rattle.std.proofs.Common.{◌<◌, ℕ, length, get_or, sym, subst, arith, refl}
use Rattle.av_sys.specs.declared.terms.System.{System}
use Rattle.av_sys.specs.Terms.{term_at}
use Rattle.av_count.specs.Choices.{sum_from}
use Rattle.av_sys.specs.TreeLists.{count_at}
use Rattle.av_count.specs.Members.{term_ways}
use Rattle.av_tree.specs.Picks.{Fitting}
use Rattle.av_count.proofs.NodeForms.{node_form}
use Rattle.av_tree.proofs.Entries.{ranked_node}
use Rattle.av_tree.proofs.placing.node_place.Goals as goal

pub place_of-within-requires-clause-known : goal.place_of-within-requires-clause-known
place_of-within-requires-clause-known c k lt =
    subst (λ (S : System). get_or c.args.children.now k 0 < length S.equations) (sym c.requires.stands)
    ((node_form c.args.system.now c.args.eq c.args.t c.args.root.now c.args.children.now c.requires.formed c.requires.node).known k lt)

pub place_of-within-requires-clause-few : goal.place_of-within-requires-clause-few
place_of-within-requires-clause-few c = (node_form c.args.system.now c.args.eq c.args.t c.args.root.now c.args.children.now c.requires.formed c.requires.node).few

pub place_of-within-requires-clause-fits : goal.place_of-within-requires-clause-fits
place_of-within-requires-clause-fits c =
    let f = c.requires.fits in
    (f.0, subst (λ (S : System). Fitting (count_at S) c.args.children.now c.args.size f.0) (sym c.requires.stands) f.1, f.2)

pub returns : goal.returns
returns c ps fits alike =
    let S = c.args.system.now in
    let f = λ (t : ℕ). term_ways S c.args.size (term_at S c.args.eq t) in
    let there = subst (λ (Z : System). Fitting (count_at Z) c.args.children.now c.args.size ps) (sym c.requires.stands) fits in
    let w = c.place_of-within.ensures 1 0 ps c.of.ensures c.of-2.ensures (omega arith) there alike in
    ranked_node S c.args.table.now.system c.args.eq c.args.t c.args.size (sum_from f 0 c.args.t) c.args.root.now c.args.children.now ps c.place_of-within.result c.plus.result
    c.requires.formed c.requires.stands c.requires.t c.requires.node w refl
    (c.plus.ensures (sum_from f 0 c.args.t) w.place c.before_term-before.ensures w.is)
