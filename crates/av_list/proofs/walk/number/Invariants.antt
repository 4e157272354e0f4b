-- The product of the numbers so far.
use Rattle.std.proofs.Common.{◌≡◌, take}
use Rattle.av_count.specs.Counts.{capped}
use Rattle.av_list.specs.Remaining.{completion_count}
use Rattle.av_list.proofs.walk.number.Given as goal

abbrev pub invariant-loop-due : goal.invariant-loop-due
invariant-loop-due l = l.product ≡ capped (completion_count l.table.system (take l.due-index l.dues))
