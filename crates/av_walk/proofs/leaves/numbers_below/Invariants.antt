-- The numbers gone through pick the first terms.
use Rattle.std.proofs.Common.{◌≡◌, ◌<◌, List, length, take, All}
use Rattle.av_split.specs.declared.cells.Cell.{Cell}
use Rattle.av_walk.specs.Walk.{Literal}
use Rattle.av_walk.specs.Sifts.{picked}
use Rattle.av_walk.proofs.leaves.numbers_below.Given as goal

abbrev pub invariant-loop-i : goal.invariant-loop-i
invariant-loop-i l = record {
  within : All (λ j. j < l.n) l.all.items;
  picked : (ts : List (List (Literal Cell))) → length ts ≡ l.n → picked ts l.all.items ≡ take l.i ts;
}
