-- The children gone through are free.
use Rattle.std.proofs.Common.{◌≡◌, replicate}
use Rattle.av_name.specs.Constraints.{free}
use Rattle.av_split.proofs.boxes.SplitBox.free.Given as goal

abbrev pub invariant-loop : goal.invariant-loop
invariant-loop l = l.all ≡ replicate l.counter free
