-- A point has no sizes, and a node has the first ones at the place.
use Rattle.std.proofs.Common.{◌≡◌, ◌<◌, ◌*◌, ℕ, length, subst, sym, ap, arith, ◌∙◌, get_or, Some, ◌++◌, List}
use Rattle.av_sys.specs.declared.terms.System.{System}
use Rattle.av_sys.specs.declared.terms.Term.TheVariants.{Node}
use Rattle.av_sys.specs.Terms.{terms_at, term_at, children_of}
use Rattle.av_perm.specs.Lists.{size_lists}
use Rattle.av_count.specs.Choices.{ways}
use Rattle.av_sys.specs.TreeLists.{count_at}
use Rattle.av_count.specs.Members.{term_ways}
use Rattle.av_count.proofs.NodeForms.{node_form}
use Rattle.av_list.specs.Sizes.{Firsts}
use Rattle.av_list.specs.Picked.{Begins}
use Rattle.av_list.proofs.Choosing.{begins_point, begins_node}
use Rattle.av_list.proofs.choice.first_of_term.Goals as goal

pub invariant_of-node-clause-term_known : goal.invariant_of-node-clause-term_known
invariant_of-node-clause-term_known c =
    subst (λ (S : System). c.args.term_number < length (terms_at S c.args.equation)) (sym c.requires.stands) c.requires.term_number

pub invariant_of-node-clause-node : goal.invariant_of-node-clause-node
invariant_of-node-clause-node c =
    subst (λ (S : System). children_of (term_at S c.args.equation c.args.term_number) ≡ c.in-Node.children) (sym c.requires.stands)
    (ap children_of (c.term.ensures ∙ ap Some c.in-Node.is))

pub invariant_of-node-clause-known : goal.invariant_of-node-clause-known
invariant_of-node-clause-known c k lt =
    let e = c.term.ensures ∙ ap Some c.in-Node.is in
    subst (λ (S : System). get_or c.in-Node.children k 0 < length S.equations) (sym c.requires.stands)
    ((node_form c.args.system.now c.args.equation c.args.term_number c.in-Node.root c.in-Node.children c.requires.formed e).known k lt)

pub invariant_of-node-clause-few : goal.invariant_of-node-clause-few
invariant_of-node-clause-few c =
    (node_form c.args.system.now c.args.equation c.args.term_number c.in-Node.root c.in-Node.children c.requires.formed (c.term.ensures ∙ ap Some c.in-Node.is)).few

-- the place lies among the trees of the term, as the table counts them
within : (S T : System) (u t n F r : ℕ) (root cs : List ℕ) → T ≡ S → term_at S u t ≡ Some (Node root cs) → r < F * term_ways S n (term_at S u t) → r < F * ways (count_at T) cs n
within S T u t n F r root cs same e lt =
    subst (λ (Z : System). r < F * ways (count_at Z) cs n) (sym same) (subst (λ o. r < F * term_ways S n o) e lt)

pub first_sizes-left-requires-clause-within : goal.first_sizes-left-requires-clause-within
first_sizes-left-requires-clause-within c = let w = c.requires.within in (w.0, w.1, within c.args.system.now c.args.table.now.system c.args.equation c.args.term_number c.args.size w.0 c.args.r c.in-Node.root c.in-Node.children c.requires.stands (c.term.ensures ∙ ap Some c.in-Node.is) w.2)

pub returns-in-Point : goal.returns-in-Point
returns-in-Point c F h lt =
    subst (λ z. Begins c.args.system.now c.args.equation c.args.term_number c.args.size F c.args.r (record { equation = c.args.equation; term = c.args.term_number; size = c.args.size; sizes = z }) c.args.r) (sym c.empty.ensures)
    (begins_point c.args.system.now c.args.equation c.args.term_number c.args.size F c.args.r (c.term.ensures ∙ ap Some c.in-Point.is) lt)

pub returns-in-Node : goal.returns-in-Node
returns-in-Node c F h lt =
    let e = c.term.ensures ∙ ap Some c.in-Node.is in
    let g = node_form c.args.system.now c.args.equation c.args.term_number c.in-Node.root c.in-Node.children c.requires.formed e in
    let r = c.first_sizes-left.ensures F h (within c.args.system.now c.args.table.now.system c.args.equation c.args.term_number c.args.size F c.args.r c.in-Node.root c.in-Node.children c.requires.stands (c.term.ensures ∙ ap Some c.in-Node.is) lt) in
    let is : c.first_sizes-left.new.sizes ≡ r.0 = r.1 ∙ ap (λ z. z ++ r.0) c.empty-sizes.ensures in
    subst (λ z. Begins c.args.system.now c.args.equation c.args.term_number c.args.size F c.args.r (record { equation = c.args.equation; term = c.args.term_number; size = c.args.size; sizes = z }) c.first_sizes-left.result) (sym is)
    (begins_node c.args.system.now c.args.equation c.args.term_number c.args.size F c.args.r c.first_sizes-left.result c.in-Node.root c.in-Node.children r.0 e (omega (arith, g.two))
    (subst (λ (S : System). Firsts (count_at S) c.in-Node.children c.args.size F (size_lists (length c.in-Node.children) c.args.size) c.args.r r.0 c.first_sizes-left.result) c.requires.stands r.2))
