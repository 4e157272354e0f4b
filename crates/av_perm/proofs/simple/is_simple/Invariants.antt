-- No interval of at least 2 places, but fewer than all, begins before the loop's place.
use Rattle.std.proofs.Common.{ℕ, ◌<◌, ◌≤◌, length}
use Rattle.av_perm.specs.Relations.{IsInterval}
use Rattle.av_perm.proofs.simple.is_simple.Given as goal

abbrev pub invariant-loop-i : goal.invariant-loop-i
invariant-loop-i l = (i m : ℕ) → i < l.i → 2 ≤ m → m < length l.entries → IsInterval l.entries i m → ⊥
