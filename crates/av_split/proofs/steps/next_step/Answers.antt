-- The step at the rows of the path, by what its last cut tells.
use Rattle.std.proofs.Common.{◌≡◌, ◌-◌, List, Some, length, reverse, slice_get, sym, subst}
use Rattle.av_split.specs.declared.rows.Mark.{Mark}
use Rattle.av_split.specs.Split.{demand_known}
use Rattle.av_split.specs.Cells.{known_at, HaveCellsOf, AreSafe}
use Rattle.av_split.specs.Walk.{last_cut}
use Rattle.av_split.proofs.LastItems.{from_last}
use Rattle.av_split.proofs.steps.next_step.Goals as goal

pub rows_step-requires-clause-cells : goal.rows_step-requires-clause-cells
rows_step-requires-clause-cells c = subst (λ (l : List (List Mark)). HaveCellsOf l c.args.demands.now) (sym c.deref-rows.ensures.value) c.requires.cells

pub rows_step-requires-in-Some-clause-cells : goal.rows_step-requires-in-Some-clause-cells
rows_step-requires-in-Some-clause-cells c = subst (λ (l : List (List Mark)). HaveCellsOf l c.args.demands.now) (sym c.deref-rows.ensures.value) c.requires.cells

pub rows_step-requires-in-Some-clause-safe : goal.rows_step-requires-in-Some-clause-safe
rows_step-requires-in-Some-clause-safe c =
    let last : slice_get c.args.path.now.turns.items (length c.args.path.now.turns.items - 1) ≡ Some c.in-Some.turn.now = cc (c.in-Some.ensures.value, c.deref.ensures.value) in
    (from_last (λ turns. AreSafe (last_cut turns) (demand_known (known_at c.deref-rows.result.now)) c.args.demands.now) c.args.path.now.turns.items c.in-Some.turn.now last
    (subst (λ (l : List (List Mark)). AreSafe (last_cut (reverse c.args.path.now.turns.items)) (demand_known (known_at l)) c.args.demands.now) (sym c.deref-rows.ensures.value) c.requires.safe)).1
