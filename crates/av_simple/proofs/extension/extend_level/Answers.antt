-- One more word of each list, and the words that were gathered at the end.
use Rattle.std.proofs.Common.{◌≡◌, ◌-◌, length, [], ◌⊎◌, subst, ap, arith, IfOk}
use Rattle.av_simple.specs.Extension.{Before, HasPoint, HasTwoPoints, HasPointOf, HasTwoPointsOf, Gathers}
use Rattle.av_simple.proofs.Gathering.{gathers_next, gathers_beside, item_length, of_item, gathered_all}
use Rattle.av_simple.proofs.extension.extend_level.Goals as goal

pub add_with_point-requires : goal.add_with_point-requires
add_with_point-requires c = let high = c.requires.high in let n = item_length c.args.basis.now (c.args.n - 1)
    c.as_slice-shorter-items.ensures c.requires.one_below c.loop-shorter-test.true c.shorter-item.is in omega arith

pub loop-shorter-preserved : goal.loop-shorter-preserved
loop-shorter-preserved c =
    gathers_next c.args.basis.now c.args.n (HasPointOf c.args.one_below.now)
    c.loop-shorter.shorter-index [] c.loop-shorter.found.keys c.add_with_point.new.found.keys c.loop-shorter.invariant
    (of_item c.args.basis.now (c.args.n - 1) c.args.n HasPoint
    c.as_slice-shorter-items.ensures c.requires.one_below c.loop-shorter-test.true c.shorter-item.is
    (λ l. omega (arith, l, c.requires.low)) c.in_ok-add_with_point.ensures)

pub add_with_two_points-requires : goal.add_with_two_points-requires
add_with_two_points-requires c = let high = c.requires.high in let n = item_length c.args.basis.now (c.args.n - 2)
    c.as_slice-shortest-items.ensures c.requires.two_below c.loop-shortest-test.true c.shortest-item.is in omega arith

pub loop-shortest-preserved : goal.loop-shortest-preserved
loop-shortest-preserved c =
    gathers_beside c.args.basis.now c.args.n (Before (length c.args.one_below.now) (HasPointOf c.args.one_below.now)) (HasTwoPointsOf c.args.basis.now c.args.two_below.now)
    c.loop-shortest.shortest-index [] c.loop-shortest.found.keys c.add_with_two_points.new.found.keys c.loop-shortest.invariant
    (of_item c.args.basis.now (c.args.n - 2) c.args.n (HasTwoPoints c.args.basis.now)
    c.as_slice-shortest-items.ensures c.requires.two_below c.loop-shortest-test.true c.shortest-item.is
    (λ l. omega (arith, l, c.requires.low)) c.in_ok-add_with_two_points.ensures)

pub returns : goal.returns
returns c =
    let e : c.loop-shortest.shortest-index ≡ length c.args.two_below.now =
    omega (arith, c.loop-shortest-test.false, c.loop-shortest.auto.shortest-index-end, ap length c.as_slice-shortest-items.ensures) in
    subst (λ keys. IfOk c.in_order.result (λ words. words ≡ keys))
    (gathered_all c.args.basis.now c.args.one_below.now c.args.two_below.now c.args.n c.loop-shortest.found.keys c.requires.low c.requires.one_below c.requires.two_below
    (subst (λ k. Gathers c.args.basis.now c.args.n (λ w. Before (length c.args.one_below.now) (HasPointOf c.args.one_below.now) w ⊎ Before k (HasTwoPointsOf c.args.basis.now c.args.two_below.now) w) [] c.loop-shortest.found.keys)
    e c.loop-shortest.invariant))
    c.in_order.ensures
