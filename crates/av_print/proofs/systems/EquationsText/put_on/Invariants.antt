-- All was written but the lines of the equations from the number on.
use Rattle.std.proofs.Common.{◌≡◌, ◌≤◌}
use Rattle.av_print.proofs.SystemTexts.{lines_from}
use Rattle.av_print.proofs.Written.{AppendsUpTo}
use Rattle.av_print.proofs.systems.EquationsText.put_on.Given as goal

abbrev pub invariant-loop-equation : goal.invariant-loop-equation
invariant-loop-equation g l = record {
  written : AppendsUpTo (g.K.Sink.held l.fn.sink) (g.K.Sink.held l.sink) (lines_from l.self 0) (lines_from l.self l.equation-index);
  numbered : l.number ≡ l.equation-index;
  faults : g.K.Sink.faults l.fn.sink ≤ g.K.Sink.faults l.sink;
  wants : g.K.Sink.wants l.fn.sink ≤ g.K.Sink.wants l.sink;
}
