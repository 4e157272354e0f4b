-- None of the numbers seen is one.
use Rattle.std.proofs.Common.{ℕ, ◌-◌, ◌<◌, ◌≤◌}
use Rattle.av_perm.specs.Relations.{at}
use Rattle.av_match.specs.Narrow.{Lies}
use Rattle.av_match.proofs.narrow.first_within.Given as goal

abbrev pub invariant-loop-x : goal.invariant-loop-x
invariant-loop-x l = (x : ℕ) → l.least ≤ x → x < l.x → Lies l.other (at l.line (x - 1)) → ⊥
