-- The patterns gone through have their next marks.
use Rattle.std.proofs.Common.{◌==◌, get_or}
use Rattle.av_split.specs.Marks.{unmarked, next_mark, relates}
use Rattle.av_split.proofs.RowWalks.{Changed}
use Rattle.av_split.proofs.table.Table.settle.Given as goal

abbrev pub invariant-loop-i : goal.invariant-loop-i
invariant-loop-i l = Changed (λ j. next_mark l.required (j == l.p) (relates l.required l.self l.p j) (get_or l.fn.row j unmarked)) l.fn.row l.i l.row
