-- The demands gone through are not broken.
use Rattle.std.proofs.Common.{◌+◌, drop}
use Rattle.av_split.specs.Split.{demand_known}
use Rattle.av_split.specs.Cells.{known_at}
use Rattle.av_split.proofs.Walks.{Breaks}
use Rattle.av_split.proofs.steps.some_broken.Given as goal

abbrev pub invariant-loop-i : goal.invariant-loop-i
invariant-loop-i l = Breaks (demand_known (known_at l.rows)) (drop (l.fn.from + 1) l.fn.demands) (drop l.i l.fn.demands)
