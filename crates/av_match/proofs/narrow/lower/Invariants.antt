-- What fits still fits, and the entries left of the order are not above the greatest.
use Rattle.std.proofs.Common.{◌≡◌, ℕ, ◌+◌, ◌-◌, ◌<◌, ◌≤◌, length}
use Rattle.av_perm.specs.Relations.{at}
use Rattle.av_match.specs.Narrow.{Fit, IsRoute}
use Rattle.av_match.proofs.narrow.lower.Given as goal

abbrev pub invariant-loop-t : goal.invariant-loop-t
invariant-loop-t l = record {
  short : l.most ≤ length l.line;
  long : length l.main ≡ length l.initial.main;
  kept : (x y : ℕ → ℕ) → IsRoute l.line l.order (length l.initial.main) x y → Fit l.initial.main x → Fit l.other y
      → Fit l.main x × ((t : ℕ) → t + l.t < length l.order → x (at l.order t - 1) ≤ l.most);
}
