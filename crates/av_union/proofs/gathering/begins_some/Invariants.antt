-- None of the words gone through begins so.
use Rattle.std.proofs.Common.{◌≡◌, ℕ, false, List, take}
use Rattle.av_perm.specs.Members.{In}
use Rattle.av_union.specs.Growth.{begins_at}
use Rattle.av_union.proofs.gathering.begins_some.Given as goal

abbrev pub invariant-loop-pattern : goal.invariant-loop-pattern
invariant-loop-pattern l = (g : List ℕ) → In g (take l.pattern-index l.second) → begins_at l.partial.word l.partial.places.items g ≡ false
