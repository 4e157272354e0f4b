-- The numbers are of patterns, and their order is that of the words.
use Rattle.std.proofs.Common.{◌∙◌, ◌<◌, get_or, length, flat_map, List, ℕ, refl, ap, subst}
use Rattle.std.proofs.lemmas.List.{take_all}
use Rattle.av_perm.specs.Members.{In}
use Rattle.av_perm.proofs.Membership.{In_at}
use Rattle.av_split.specs.Marks.{named_at, IsOrder}
use Rattle.av_split.proofs.RowWalks.{named_in_order, flat_next}
use Rattle.av_split.proofs.table.Table.named.Goals as goal

pub push_named-requires-clause-pattern : goal.push_named-requires-clause-pattern
push_named-requires-clause-pattern c =
    subst (λ (ps : List (List ℕ)). get_or c.deref-i-items.result.now c.loop-i.i-index 0 < length ps) c.self.view_is
    (c.self.invariant.1.within _ (subst (In _) c.deref-i-items.ensures.value (In_at c.deref-i-items.result.now c.loop-i.i-index 0 c.loop-i-test.true)))

pub loop-i-preserved : goal.loop-i-preserved
loop-i-preserved c =
    flat_next (named_at c.args.self.now c.args.required c.args.row.now) c.deref-i-items.result.now c.loop-i.i-index _ _ 0 _ _ c.loop-i-test.true refl refl c.loop-i.invariant c.in_ok-push_named.ensures

pub returns : goal.returns
returns c =
    c.loop-i.invariant
    ∙ ap (flat_map (named_at c.args.self.now c.args.required c.args.row.now)) (take_all c.loop-i.i-index c.deref-i-items.result.now c.loop-i-test.false ∙ c.deref-i-items.ensures.value)
    ∙ named_in_order c.args.self.now c.self.inside.order.items c.args.required c.args.row.now (subst (λ ps. IsOrder ps c.self.inside.order.items) c.self.view_is c.self.invariant.1) c.requires
