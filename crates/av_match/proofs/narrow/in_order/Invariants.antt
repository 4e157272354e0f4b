-- The places seen are in order.
use Rattle.std.proofs.Common.{◌≡◌, ℕ, ◌+◌, ◌<◌, length}
use Rattle.av_perm.specs.Relations.{at}
use Rattle.av_perm.specs.declared.limits.TheConstants.{MAX_LENGTH}
use Rattle.av_match.proofs.narrow.in_order.Given as goal

abbrev pub invariant-loop-i : goal.invariant-loop-i
invariant-loop-i l = record {
  long : length l.places ≡ MAX_LENGTH;
  seen : (s : ℕ) → s < l.i → at l.places s ≡ s + 1;
}
