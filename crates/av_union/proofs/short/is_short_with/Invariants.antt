-- The words gone through are short enough.
use Rattle.std.proofs.Common.{ℕ, List, ◌+◌, ◌≤◌, length, take}
use Rattle.av_perm.specs.Members.{In}
use Rattle.av_union.specs.declared.limits.TheConstants.{MAX_OVERLAY_LENGTH}
use Rattle.av_union.proofs.short.is_short_with.Given as goal

abbrev pub invariant-loop-other : goal.invariant-loop-other
invariant-loop-other l = (g : List ℕ) → In g (take l.other-index l.others) → length l.word + length g ≤ MAX_OVERLAY_LENGTH
