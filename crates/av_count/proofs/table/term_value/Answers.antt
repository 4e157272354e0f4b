-- A point has size 1, and a node has the lists of its subtrees.
use Rattle.std.proofs.Common.{sym, ◌∙◌, ap}
use Rattle.av_sys.specs.Terms.{term_at}
use Rattle.av_count.specs.Counts.{capped}
use Rattle.av_count.specs.Members.{term_ways}
use Rattle.av_count.proofs.Filled.{point_one, point_none}
use Rattle.av_count.proofs.Linked.{head_none, head_some, node_numbers}
use Rattle.av_count.proofs.table.term_value.Goals as goal

pub node_value-requires-clause-node : goal.node_value-requires-clause-node
node_value-requires-clause-node c =
    let S = c.args.layout.now.of.value in
    let n = head_some c.args.layout.now.links (term_at S c.args.eq c.args.t) c.in-Some.link c.in-Some.ensures in
    (n.children, node_numbers S c.args.eq c.args.t n.root n.children c.requires.layout.formed n.is, n.node)

pub returns-then-size-eq1 : goal.returns-then-size-eq1
returns-then-size-eq1 c =
    let S = c.args.layout.now.of.value in
    point_one S c.args.size (term_at S c.args.eq c.args.t) (head_none c.args.layout.now.links (term_at S c.args.eq c.args.t) c.in-None.ensures) c.if-size-eq1.true

pub returns-else-size-eq1 : goal.returns-else-size-eq1
returns-else-size-eq1 c =
    let S = c.args.layout.now.of.value in
    point_none S c.args.size (term_at S c.args.eq c.args.t) (head_none c.args.layout.now.links (term_at S c.args.eq c.args.t) c.in-None.ensures) c.if-size-eq1.false

pub returns-in-Some : goal.returns-in-Some
returns-in-Some c =
    let S = c.args.layout.now.of.value in
    let n = head_some c.args.layout.now.links (term_at S c.args.eq c.args.t) c.in-Some.link c.in-Some.ensures in
    c.node_value.ensures n.children (node_numbers S c.args.eq c.args.t n.root n.children c.requires.layout.formed n.is) n.node
    ∙ ap capped (sym (ap (term_ways S c.args.size) n.is))
