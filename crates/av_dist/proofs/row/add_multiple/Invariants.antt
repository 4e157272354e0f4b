-- The numbers of the row before the loop's are added.
use Rattle.av_dist.proofs.AddedMultiples.{AddsFirst}
use Rattle.av_dist.proofs.row.add_multiple.Given as goal

abbrev pub invariant-loop-i : goal.invariant-loop-i
invariant-loop-i l = AddsFirst l.fn.numbers l.row l.from l.factor l.i l.numbers
