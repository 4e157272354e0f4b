-- All rows hold the sizes before the loop's.
use Rattle.av_count.specs.Tables.{IsFilled}
use Rattle.av_count.proofs.table.Table.new.Given as goal

abbrev pub invariant-loop-size : goal.invariant-loop-size
invariant-loop-size l = IsFilled l.layout l.size l.counts l.rests
