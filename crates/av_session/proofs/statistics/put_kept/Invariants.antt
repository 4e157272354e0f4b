-- The lines of the members that the sieve gave were written, or wait, and the closure is the same.
use Rattle.std.proofs.Common.{◌≡◌, ◌≤◌, ◌++◌, ℕ, List, Bool, length}
use Rattle.std.specs.Fn.{FnReturnsAt}
use Rattle.av_print.proofs.Written.{AppendsUpTo}
use Rattle.av_session.specs.Answers.{Tells, kept_text}
use Rattle.av_session.proofs.statistics.put_kept.Given as goal

abbrev pub invariant-rows : goal.invariant-rows
invariant-rows g l = record {
  written : (p : List ℕ → Bool) → Tells (FnReturnsAt g.F.Fn l.fn.sieve.keep) p
      → AppendsUpTo (g.K.Sink.held l.fn.sink) (g.K.Sink.held l.sink) (l.fn.waiting.held ++ kept_text p l.fn.sieve.lister) (l.waiting.held ++ kept_text p l.sieve.lister);
  faults : g.K.Sink.faults l.fn.sink ≤ g.K.Sink.faults l.sink;
  keep : l.sieve.keep ≡ l.fn.sieve.keep;
}

abbrev pub decreases-rows : goal.decreases-rows
decreases-rows g l = length l.sieve.lister
