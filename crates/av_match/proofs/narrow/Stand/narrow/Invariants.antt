-- What fits still fits.
use Rattle.std.proofs.Common.{◌≡◌, ℕ, length}
use Rattle.av_match.specs.Narrow.{AreRoutes, Fit}
use Rattle.av_match.proofs.narrow.Stand.narrow.Given as goal

abbrev pub invariant-loop-round : goal.invariant-loop-round
invariant-loop-round l = record {
  places : length l.self.places.items ≡ length l.initial.self.places.items;
  values : length l.self.values.items ≡ length l.initial.self.places.items;
  kept : (x y : ℕ → ℕ) → AreRoutes l.word l.lines l.chosen (length l.initial.self.places.items) x y → Fit l.initial.self.places.items x → Fit l.initial.self.values.items y
      → Fit l.self.places.items x × Fit l.self.values.items y;
}
