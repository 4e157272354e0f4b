-- The lines of the items that the loop took were written, or wait.
use Rattle.std.proofs.Common.{◌≤◌, ◌++◌}
use Rattle.std.specs.Iterator.Adapters.{take_source, take_count}
use Rattle.av_print.proofs.Written.{AppendsUpTo}
use Rattle.av_session.specs.Answers.{rows_text}
use Rattle.av_session.proofs.WaitingLines.{lines_of}
use Rattle.av_session.proofs.listing.put_rows.Given as goal

abbrev pub invariant-loop-rank : goal.invariant-loop-rank
invariant-loop-rank g l = record {
  written : AppendsUpTo (g.K.Sink.held l.fn.sink) (g.K.Sink.held l.sink) (l.fn.waiting.held ++ rows_text l.class.system l.n l.start l.many) (l.waiting.held ++ lines_of (take_count l.rank-iterator) (take_source l.rank-iterator));
  faults : g.K.Sink.faults l.fn.sink ≤ g.K.Sink.faults l.sink;
}
