-- Only equations that are alive are marked, and each round marks one more.
use Rattle.std.proofs.Common.{◌-◌, length}
use Rattle.std.specs.List.{count_by}
use Rattle.av_build.specs.Rounds.{IsSound}
use Rattle.av_build.proofs.marking.mark_alive.Given as goal

abbrev pub invariant-rounds : goal.invariant-rounds
invariant-rounds l = IsSound l.system.equations l.marks

abbrev pub decreases-rounds : goal.decreases-rounds
decreases-rounds l = length l.marks - count_by (λ mark. mark) l.marks
