-- The step of the first demand that isn't done decides, if none is broken.
use Rattle.std.proofs.Common.{◌≡◌, List, subst}
use Rattle.av_split.specs.declared.cells.Cell.{Cell}
use Rattle.av_split.specs.declared.rows.Mark.{Mark}
use Rattle.av_split.specs.declared.steps.Step.{Step}
use Rattle.av_split.specs.Split.{Demand, demand_known}
use Rattle.av_split.specs.Cells.{known_at, first_cell, IsFirst}
use Rattle.av_split.proofs.Walks.{all_done, first_fails, first_within, later_fails, first_asks}
use Rattle.av_split.proofs.steps.rows_step.Goals as goal

-- the first step by the arm
by_arm : (rows : List (List Mark)) (ds : List (Demand Cell)) (s t : Step) → IsFirst s (demand_known (known_at rows)) (first_cell rows) ds → s ≡ t → IsFirst t (demand_known (known_at rows)) (first_cell rows) ds
by_arm rows ds s t f e = subst (λ x. IsFirst x (demand_known (known_at rows)) (first_cell rows) ds) e f

pub some_broken-requires-clause-within : goal.some_broken-requires-clause-within
some_broken-requires-clause-within c =
    first_within (demand_known (known_at c.args.rows.now)) (first_cell c.args.rows.now) c.args.demands.now c.first_step-first.result.0 c.first_step-first.ensures.done c.in-Asks.cell
    (by_arm _ _ _ _ c.first_step-first.ensures.step c.in-Asks.is)

pub returns-in-Holds-clause-step : goal.returns-in-Holds-clause-step
returns-in-Holds-clause-step c =
    all_done (demand_known (known_at c.args.rows.now)) (first_cell c.args.rows.now) c.args.demands.now c.first_step-first.result.0 c.first_step-first.ensures.done (by_arm _ _ _ _ c.first_step-first.ensures.step c.in-Holds.is)

pub returns-in-Fails-clause-step : goal.returns-in-Fails-clause-step
returns-in-Fails-clause-step c =
    first_fails (demand_known (known_at c.args.rows.now)) (first_cell c.args.rows.now) c.args.demands.now c.first_step-first.result.0 c.first_step-first.ensures.done (by_arm _ _ _ _ c.first_step-first.ensures.step c.in-Fails.is)

pub returns-then-some_broken-clause-step : goal.returns-then-some_broken-clause-step
returns-then-some_broken-clause-step c =
    later_fails (demand_known (known_at c.args.rows.now)) (first_cell c.args.rows.now) c.args.demands.now c.first_step-first.result.0 c.first_step-first.ensures.done c.in-Asks.cell
    (by_arm _ _ _ _ c.first_step-first.ensures.step c.in-Asks.is) (c.some_broken.ensures.broken c.if-some_broken.true)

pub returns-else-some_broken-clause-step : goal.returns-else-some_broken-clause-step
returns-else-some_broken-clause-step c =
    first_asks (demand_known (known_at c.args.rows.now)) (first_cell c.args.rows.now) c.args.demands.now c.first_step-first.result.0 c.first_step-first.ensures.done c.in-Asks.cell
    (by_arm _ _ _ _ c.first_step-first.ensures.step c.in-Asks.is) (c.some_broken.ensures.whole c.if-some_broken.false)
