-- None of the numbers seen is one.
use Rattle.std.proofs.Common.{ℕ, ◌+◌, ◌-◌, ◌<◌, ◌≤◌}
use Rattle.av_perm.specs.Relations.{at}
use Rattle.av_match.specs.Narrow.{Lies}
use Rattle.av_match.proofs.narrow.last_within.Given as goal

abbrev pub invariant-loop-gone : goal.invariant-loop-gone
invariant-loop-gone l = (x : ℕ) → l.most < x + l.gone → x ≤ l.most → Lies l.other (at l.line (x - 1)) → ⊥
