-- None of the patterns seen is contained.
use Rattle.std.proofs.Common.{◌≡◌, ℕ, ◌<◌, List, Some, false, slice_get}
use Rattle.av_perm.specs.Contain.{contains}
use Rattle.av_name.proofs.names.avoids_others.Given as goal

abbrev pub invariant-loop-i : goal.invariant-loop-i
invariant-loop-i l = (k : ℕ) (other : List ℕ) → k < l.i → slice_get l.patterns k ≡ Some other → contains l.word other ≡ false
