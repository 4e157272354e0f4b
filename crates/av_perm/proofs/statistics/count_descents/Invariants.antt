-- The descents before the loop's place are counted.
use Rattle.std.proofs.Common.{◌≡◌, ◌+◌, ◌-◌, drop}
use Rattle.av_perm.specs.Stat.{descents}
use Rattle.av_perm.proofs.statistics.count_descents.Given as goal

abbrev pub invariant-loop-i : goal.invariant-loop-i
invariant-loop-i l = l.count + descents (drop (l.i - 1) l.entries) ≡ descents l.entries
