-- The summary is that of the draws before the loop's.
use Rattle.std.proofs.Common.{◌≡◌, ◌≤◌, ◌*◌}
use Rattle.av_perm.specs.declared.limits.TheConstants.{MAX_STATISTIC}
use Rattle.av_sys.specs.TreeLists.{members}
use Rattle.av_session.specs.Drawing.{draws, drawn_values}
use Rattle.av_session.proofs.SeedDraws.{IsSummaryBefore, values_left}
use Rattle.av_session.proofs.draws.Urn.summary.Given as goal

abbrev pub invariant-loop-d : goal.invariant-loop-d
invariant-loop-d l = record {
  before : IsSummaryBefore (drawn_values l.kind (draws (members l.self.system.now l.self.n) l.seed l.many)) (values_left l.kind (members l.self.system.now l.self.n) l.seed l.d l.many) l.summary;
  seed : l.drawer.seed ≡ l.seed;
  made : l.drawer.made ≡ l.d;
  few : l.summary.total ≤ MAX_STATISTIC * l.d;
}
