-- The words with the first point before the loop's place were gathered.
use Rattle.std.proofs.Common.{suc, length}
use Rattle.av_simple.specs.Extension.{Before, HasTwoPointsIn, Gathers}
use Rattle.av_simple.proofs.extension.add_with_two_points.Given as goal

abbrev pub invariant-loop-first_place : goal.invariant-loop-first_place
invariant-loop-first_place l = Gathers l.basis (suc (suc (length l.word))) (Before l.first_place (HasTwoPointsIn l.basis l.word)) l.fn.found.keys l.found.keys
