-- The words gone through are short enough beside each of the other list.
use Rattle.std.proofs.Common.{ℕ, List, ◌+◌, ◌≤◌, length, take}
use Rattle.av_perm.specs.Members.{In}
use Rattle.av_union.specs.declared.limits.TheConstants.{MAX_OVERLAY_LENGTH}
use Rattle.av_union.proofs.short.are_short.Given as goal

abbrev pub invariant-loop-word : goal.invariant-loop-word
invariant-loop-word l = (f : List ℕ) → In f (take l.word-index l.word-items) → (g : List ℕ) → In g l.second → length f + length g ≤ MAX_OVERLAY_LENGTH
