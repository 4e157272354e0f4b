-- The entries at the places gone through lie as those of the pattern.
use Rattle.std.proofs.Common.{ℕ, ◌<◌, ◌↔◌, length}
use Rattle.av_perm.specs.Relations.{at}
use Rattle.av_union.proofs.partials.lie_alike.Given as goal

abbrev pub invariant-loop-i : goal.invariant-loop-i
invariant-loop-i l = (s t : ℕ) → s < l.i → t < length l.places → (at l.word (at l.places s) < at l.word (at l.places t)) ↔ (at l.pattern s < at l.pattern t)

abbrev pub invariant-loop-j : goal.invariant-loop-j
invariant-loop-j l = (t : ℕ) → t < l.j → (at l.word (at l.places l.i) < at l.word (at l.places t)) ↔ (at l.pattern l.i < at l.pattern t)
