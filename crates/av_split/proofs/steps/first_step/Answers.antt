-- A demand that is done is passed over; one that isn't is the first.
use Rattle.std.proofs.Common.{◌∙◌, length, refl, sym, ap, subst, arith}
use Rattle.std.proofs.lemmas.List.{take_all}
use Rattle.av_split.specs.Split.{all_of, demand_known}
use Rattle.av_split.specs.Cells.{known_at, first_cell, IsStep}
use Rattle.av_split.proofs.Walks.{item_in, item_at, all_more}
use Rattle.av_split.proofs.steps.first_step.Goals as goal

pub demand_step-requires : goal.demand_step-requires
demand_step-requires c = c.requires.cells _ (item_in _ _ c.loop-i.i _ (omega (arith, c.loop-i-test.true)) c.index-demands-i.is c.as_slice-demands.ensures)

pub loop-i-preserved : goal.loop-i-preserved
loop-i-preserved c =
    let n = ap length c.as_slice-demands.ensures in
    all_more (demand_known (known_at c.args.rows.now)) c.args.demands.now c.loop-i.i _ c.index-demands-i.result c.index-demands-i.result (omega (arith, c.loop-i-test.true)) (sym (item_at _ _ c.loop-i.i c.index-demands-i.result c.index-demands-i.is c.as_slice-demands.ensures)) refl
    c.loop-i.invariant (subst (λ s. IsStep s (demand_known (known_at c.args.rows.now) c.index-demands-i.result) (first_cell c.args.rows.now c.index-demands-i.result)) c.in-Holds.is c.demand_step.ensures)

pub returns-in-Fails-clause-done : goal.returns-in-Fails-clause-done
returns-in-Fails-clause-done c = c.loop-i.invariant

pub returns-in-Asks-clause-done : goal.returns-in-Asks-clause-done
returns-in-Asks-clause-done c = c.loop-i.invariant

pub returns-clause-done : goal.returns-clause-done
returns-clause-done c =
    let n = ap length c.as_slice-demands.ensures in
    ap (all_of (demand_known (known_at c.args.rows.now))) (take_all (length c.as_slice-demands.result.now) c.args.demands.now (omega arith) ∙ sym (take_all c.loop-i.i c.args.demands.now (omega (arith, c.loop-i-test.false)))) ∙ c.loop-i.invariant
