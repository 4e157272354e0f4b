-- The numbers of the lengths before the loop's were written.
use Rattle.std.proofs.Common.{◌≤◌}
use Rattle.av_print.proofs.Written.{AppendsUpTo}
use Rattle.av_session.specs.Answers.{spaced_count, counts_text}
use Rattle.av_session.proofs.Levels.{texts_from}
use Rattle.av_session.proofs.members.CountsToText.put_on.Given as goal

abbrev pub invariant-loop-m : goal.invariant-loop-m
invariant-loop-m g l = record {
  written : AppendsUpTo (g.K.Sink.held l.fn.sink) (g.K.Sink.held l.sink) (counts_text l.self.table.now.system l.self.largest) (texts_from (spaced_count l.self.table.now.system) l.m l.self.largest);
  faults : g.K.Sink.faults l.fn.sink ≤ g.K.Sink.faults l.sink;
  wants : g.K.Sink.wants l.fn.sink ≤ g.K.Sink.wants l.sink;
}
