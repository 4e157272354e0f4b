-- A product is above 0 exactly where both factors are.
use Rattle.std.proofs.Common.{◌<◌, ◌+◌, ◌-◌, sym, subst, drop, ◌∙◌, true≢false, get_or}
use Rattle.av_count.specs.Choices.{ways}
use Rattle.av_sys.specs.TreeLists.{count_at}
use Rattle.av_count.proofs.Filled.{child_is}
use Rattle.av_list.proofs.Products.{both_some, left_some, right_some}
use Rattle.av_list.proofs.sizes.leaves_lists.Goals as goal

pub returns-then-here : goal.returns-then-here
returns-then-here c =
    let S = c.args.node.now.table.now.system in
    let a = count_at S (get_or c.args.node.now.children.now c.args.i 0) c.args.at in
    let b = ways (count_at S) (drop (c.args.i + 1) c.args.node.now.children.now) (c.args.size - c.args.at) in
    let e = child_is c.args.node.now.children.now c.args.i c.equation-child.result c.equation-child.ensures in
    let h = c.is_some-here.ensures (count_at S c.equation-child.result c.args.at) c.get-number.ensures in
    let r = c.is_some-rest.ensures b c.rest_count.ensures in
    let here : 0 < a = subst (λ z. 0 < count_at c.args.node.now.table.now.system z c.args.at) (sym e) (h.0 c.if-here.true) in
    (λ t. both_some a b here (r.0 t), λ p. r.1 (right_some a b 0 p))

pub returns-else-here : goal.returns-else-here
returns-else-here c =
    let S = c.args.node.now.table.now.system in
    let a = count_at S (get_or c.args.node.now.children.now c.args.i 0) c.args.at in
    let b = ways (count_at S) (drop (c.args.i + 1) c.args.node.now.children.now) (c.args.size - c.args.at) in
    let e = child_is c.args.node.now.children.now c.args.i c.equation-child.result c.equation-child.ensures in
    let h = c.is_some-here.ensures (count_at S c.equation-child.result c.args.at) c.get-number.ensures in
    (λ t. absurd (true≢false (sym t ∙ c.if-here.false)), λ p. absurd (true≢false (sym (h.1 (subst (λ z. 0 < count_at c.args.node.now.table.now.system z c.args.at) e (left_some a b 0 p))) ∙ c.if-here.false)))
