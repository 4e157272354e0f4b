-- The words kept are those of the basis that contain one of the words gone through.
use Rattle.av_union.proofs.Kept.{Reaches}
use Rattle.av_union.proofs.uniting.gathered.Given as goal

abbrev pub invariant-loop-i : goal.invariant-loop-i
invariant-loop-i l = Reaches l.first l.second l.i l.kept.keys
