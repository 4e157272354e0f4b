-- The next demand is not broken, or it breaks the box.
use Rattle.std.proofs.Common.{◌∙◌, ◌+◌, drop, length, Some, refl, ap, arith}
use Rattle.av_split.specs.Split.{demand_known}
use Rattle.av_split.specs.Cells.{known_at}
use Rattle.av_split.proofs.Walks.{item_in, item_at, breaks_next, breaks_here, breaks_none}
use Rattle.av_split.proofs.steps.some_broken.Goals as goal
use Rattle.av_split.proofs.steps.some_broken.Goals.{else-not-is_safe-via-then-not-is_safe+else-is_broken, else-not-is_safe-via-else-not-is_safe}

pub is_broken-requires : goal.is_broken-requires
is_broken-requires c = c.requires.cells _ (item_in _ _ c.loop-i.i _ (omega (arith, c.loop-i-test.true)) c.index-demands-i.is c.as_slice-demands.ensures)

pub loop-i-preserved : goal.loop-i-preserved
loop-i-preserved c =
    let n = ap length c.as_slice-demands.ensures in
    breaks_next (demand_known (known_at c.args.rows.now)) (drop (c.args.from + 1) c.args.demands.now) c.args.demands.now c.loop-i.i _ c.index-demands-i.result (omega (arith, c.loop-i-test.true)) (item_at _ _ c.loop-i.i c.index-demands-i.result c.index-demands-i.is c.as_slice-demands.ensures) refl
    (elim c.else-not-is_safe.branch [
      | else-not-is_safe-via-then-not-is_safe+else-is_broken w ↦ w.is_broken.ensures.whole w.if-is_broken.false
      | else-not-is_safe-via-else-not-is_safe w ↦
          c.requires.safe c.index-demands-i.result (item_in _ _ c.loop-i.i _ (omega (arith, c.loop-i-test.true)) c.index-demands-i.is c.as_slice-demands.ensures)
          (c.is_safe.ensures w.if-not-is_safe.false ∙ ap (λ b. Some b) c.is_required.ensures)
    ])
    c.loop-i.invariant

pub returns-then-is_broken-clause-broken : goal.returns-then-is_broken-clause-broken
returns-then-is_broken-clause-broken c = λ e.
    let n = ap length c.as_slice-demands.ensures in
    breaks_here (demand_known (known_at c.args.rows.now)) (drop (c.args.from + 1) c.args.demands.now) c.args.demands.now c.loop-i.i c.index-demands-i.result (omega (arith, c.loop-i-test.true)) (item_at _ _ c.loop-i.i c.index-demands-i.result c.index-demands-i.is c.as_slice-demands.ensures)
    (c.is_broken.ensures.broken c.if-is_broken.true) c.loop-i.invariant

pub returns-clause-whole : goal.returns-clause-whole
returns-clause-whole c = λ e.
    let n = ap length c.as_slice-demands.ensures in
    breaks_none (demand_known (known_at c.args.rows.now)) (drop (c.args.from + 1) c.args.demands.now) c.args.demands.now c.loop-i.i (omega (arith, c.loop-i-test.false)) c.loop-i.invariant
