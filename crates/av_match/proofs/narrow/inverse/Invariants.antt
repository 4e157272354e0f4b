-- The places of the values seen stand there.
use Rattle.std.proofs.Common.{◌≡◌, ℕ, suc, ◌-◌, ◌<◌, length}
use Rattle.av_perm.specs.Relations.{at}
use Rattle.av_perm.specs.declared.limits.TheConstants.{MAX_LENGTH}
use Rattle.av_match.proofs.narrow.inverse.Given as goal

abbrev pub invariant-loop-i : goal.invariant-loop-i
invariant-loop-i l = record {
  long : length l.places ≡ MAX_LENGTH;
  there : (s : ℕ) → s < l.i → at l.places (at l.word s - 1) ≡ suc s;
}
