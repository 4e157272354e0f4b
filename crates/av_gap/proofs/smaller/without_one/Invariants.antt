-- No place before `place` leaves a simple pattern.
use Rattle.std.proofs.Common.{ℕ, ◌<◌}
use Rattle.av_interval.specs.Laws.{LeavesSimple}
use Rattle.av_gap.proofs.smaller.without_one.Given as goal

abbrev pub invariant-loop-place : goal.invariant-loop-place
invariant-loop-place l = (k : ℕ) → k < l.place → LeavesSimple l.word k → ⊥
