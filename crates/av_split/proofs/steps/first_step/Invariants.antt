-- The demands gone through are done.
use Rattle.std.proofs.Common.{◌≡◌, take}
use Rattle.av_name.specs.declared.constraints.Known.TheVariants.{Inside}
use Rattle.av_split.specs.Split.{all_of, demand_known}
use Rattle.av_split.specs.Cells.{known_at}
use Rattle.av_split.proofs.steps.first_step.Given as goal

abbrev pub invariant-loop-i : goal.invariant-loop-i
invariant-loop-i l = all_of (demand_known (known_at l.rows)) (take l.i l.fn.demands) ≡ Inside
