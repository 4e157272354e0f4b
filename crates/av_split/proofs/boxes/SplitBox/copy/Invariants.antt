-- The constraints gone through are copied.
use Rattle.std.proofs.Common.{◌≡◌, take}
use Rattle.av_split.proofs.boxes.SplitBox.copy.Given as goal

abbrev pub invariant-loop-constraint : goal.invariant-loop-constraint
invariant-loop-constraint l = l.copy ≡ take l.constraint-index l.constraint-items
