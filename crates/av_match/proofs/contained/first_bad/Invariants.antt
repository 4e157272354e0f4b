-- None of the words seen is contained.
use Rattle.std.proofs.Common.{◌≡◌, ℕ, ◌<◌, List, Some, false, slice_get}
use Rattle.av_perm.specs.Contain.{contains}
use Rattle.av_match.proofs.contained.first_bad.Given as goal

abbrev pub invariant-loop-index : goal.invariant-loop-index
invariant-loop-index l = (k : ℕ) (other : List ℕ) → k < l.index → slice_get l.basis k ≡ Some other → contains l.word other ≡ false
