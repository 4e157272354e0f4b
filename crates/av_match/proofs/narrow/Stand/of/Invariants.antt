-- There is a span for each entry seen, in which it lies.
use Rattle.std.proofs.Common.{◌≡◌, ℕ, length}
use Rattle.av_match.specs.Narrow.{Fit, IsStanding}
use Rattle.av_match.proofs.narrow.Stand.of.Given as goal

abbrev pub invariant-loop-j : goal.invariant-loop-j
invariant-loop-j l = record {
  places : length l.places.items ≡ l.j;
  values : length l.values.items ≡ l.j;
  fit : (x y : ℕ → ℕ) → IsStanding l.word (length l.pattern) l.chosen l.from x y → Fit l.places.items x × Fit l.values.items y;
}
