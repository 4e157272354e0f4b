-- The points among the terms gone through, and those left.
use Rattle.std.proofs.Common.{◌≡◌, ◌+◌, ◌≤◌, drop}
use Rattle.av_check.specs.Verdicts.{count_points}
use Rattle.av_check.proofs.points.count_points.Given as goal

abbrev pub invariant-loop-term : goal.invariant-loop-term
invariant-loop-term l = (l.count + count_points (drop l.term-index l.term-items) ≡ count_points l.term-items) × (l.count ≤ l.term-index)
