-- The lines of the draws before the loop's were written.
use Rattle.std.proofs.Common.{◌≡◌, ◌≤◌}
use Rattle.av_sys.specs.TreeLists.{members}
use Rattle.av_print.proofs.Written.{AppendsUpTo}
use Rattle.av_session.specs.Answers.{draws_text}
use Rattle.av_session.proofs.SeedDraws.{rows_left}
use Rattle.av_session.proofs.draws.DrawnRowsText.put_on.Given as goal

abbrev pub invariant-loop-d : goal.invariant-loop-d
invariant-loop-d g l = record {
  written : AppendsUpTo (g.K.Sink.held l.fn.sink) (g.K.Sink.held l.sink) (draws_text l.self.urn.system.now l.self.urn.n l.self.seed l.self.many) (rows_left (members l.self.urn.system.now l.self.urn.n) l.self.seed l.d l.self.many);
  seed : l.drawer.seed ≡ l.self.seed;
  made : l.drawer.made ≡ l.d;
  faults : g.K.Sink.faults l.fn.sink ≤ g.K.Sink.faults l.sink;
  wants : g.K.Sink.wants l.fn.sink ≤ g.K.Sink.wants l.sink;
}
