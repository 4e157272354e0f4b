-- The words with the first point's entry below the loop's were gathered.
use Rattle.std.proofs.Common.{suc, length}
use Rattle.av_simple.specs.Extension.{Before, HasTwoPointsAt, Gathers}
use Rattle.av_simple.proofs.extension.add_with_two_points_at.Given as goal

abbrev pub invariant-loop-first_entry : goal.invariant-loop-first_entry
invariant-loop-first_entry l = Gathers l.basis (suc (suc (length l.word))) (Before l.first_entry (HasTwoPointsAt l.basis l.word l.first_place)) l.fn.found.keys l.found.keys
