-- The words with the point before the loop's place were gathered.
use Rattle.std.proofs.Common.{suc, length}
use Rattle.av_simple.specs.Extension.{Before, HasPointIn, Gathers}
use Rattle.av_simple.proofs.extension.add_with_point.Given as goal

abbrev pub invariant-loop-place : goal.invariant-loop-place
invariant-loop-place l = Gathers l.basis (suc (length l.word)) (Before l.place (HasPointIn l.word)) l.fn.found.keys l.found.keys
