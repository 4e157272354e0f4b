-- The literals gone through told no more than the first open one.
use Rattle.std.proofs.Common.{drop}
use Rattle.av_split.specs.Cells.{known_at}
use Rattle.av_split.proofs.Walks.{AllSo}
use Rattle.av_walk.specs.Walk.{literal_known}
use Rattle.av_walk.specs.Sifts.{literal_cell}
use Rattle.av_walk.proofs.sifting.term_step.Given as goal

abbrev pub invariant-loop-literal : goal.invariant-loop-literal
invariant-loop-literal l = AllSo (literal_known (known_at l.rows)) literal_cell l.found l.literal-items (drop l.literal-index l.literal-items)
