-- The words with an entry below the loop's were gathered.
use Rattle.std.proofs.Common.{suc, length}
use Rattle.av_simple.specs.Extension.{Before, HasPointAt, Gathers}
use Rattle.av_simple.proofs.extension.add_with_point_at.Given as goal

abbrev pub invariant-loop-entry : goal.invariant-loop-entry
invariant-loop-entry l = Gathers l.basis (suc (length l.word)) (Before l.entry (HasPointAt l.word l.place)) l.fn.found.keys l.found.keys
