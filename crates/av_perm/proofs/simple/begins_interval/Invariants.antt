-- The least and the greatest entry so far; no interval of at least 2 places, but fewer than all, ends before the loop's place.
use Rattle.std.proofs.Common.{ℕ, ◌+◌, ◌<◌, ◌≤◌, length}
use Rattle.av_perm.specs.Relations.{IsInterval}
use Rattle.av_perm.proofs.Spreads.{IsSpread}
use Rattle.av_perm.proofs.simple.begins_interval.Given as goal

abbrev pub invariant-loop-j : goal.invariant-loop-j
invariant-loop-j l = record {
  spread : IsSpread l.entries l.i l.j l.least l.greatest;
  none : (m : ℕ) → 2 ≤ m → l.i + m ≤ l.j → m < length l.entries → IsInterval l.entries l.i m → ⊥;
}
