-- One line more was written, or a part of it.
use Rattle.std.proofs.Common.{arith}
use Rattle.av_print.proofs.SystemTexts.{lines_turn, lines_fault, lines_end}
use Rattle.av_print.proofs.systems.EquationsText.put_on.Goals as goal

pub returns-in_err-put_on-clause-part : goal.returns-in_err-put_on-clause-part
returns-in_err-put_on-clause-part g c =
    lines_fault c.args.self.now c.loop-equation.equation-index c.equation-item.result _ _ _ _
    (rw c.as_slice-equation-items.ensures at c.loop-equation-test.true) (rw c.as_slice-equation-items.ensures at c.equation-item.is) c.loop-equation.invariant.written
    (rw c.loop-equation.invariant.numbered at c.put_on.ensures.part)

pub loop-equation-preserved : goal.loop-equation-preserved
loop-equation-preserved g c = record {
  written = lines_turn c.args.self.now c.loop-equation.equation-index c.equation-item.result _ _ _ _
      (rw c.as_slice-equation-items.ensures at c.loop-equation-test.true) (rw c.as_slice-equation-items.ensures at c.equation-item.is) c.loop-equation.invariant.written
      (rw c.loop-equation.invariant.numbered at c.in_ok-put_on.ensures.whole);
  numbered = omega arith;
  faults = omega arith;
  wants = omega arith;
}

pub returns-clause-whole : goal.returns-clause-whole
returns-clause-whole g c =
    lines_end c.args.self.now c.loop-equation.equation-index _ _ _ (rw c.as_slice-equation-items.ensures at c.loop-equation-test.false) c.loop-equation.invariant.written
