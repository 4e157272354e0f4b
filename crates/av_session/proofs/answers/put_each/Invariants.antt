-- The answers of the queries before the loop's place were written, or wait.
use Rattle.std.proofs.Common.{◌≤◌, ◌++◌, flat_map, drop}
use Rattle.av_session.specs.Answers.{answer_text}
use Rattle.av_print.proofs.Written.{AppendsUpTo}
use Rattle.av_session.proofs.answers.put_each.Given as goal

abbrev pub invariant-loop-query : goal.invariant-loop-query
invariant-loop-query g l = record {
  written : AppendsUpTo (g.K.Sink.held l.fn.sink) (g.K.Sink.held l.sink) (flat_map (answer_text l.class) l.queries) (l.waiting.held ++ flat_map (answer_text l.class) (drop l.query-index l.query-items));
  faults : g.K.Sink.faults l.fn.sink ≤ g.K.Sink.faults l.sink;
}
