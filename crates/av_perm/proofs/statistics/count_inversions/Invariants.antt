-- The inversions that begin before the loop's place are counted.
use Rattle.std.proofs.Common.{◌≡◌, ◌+◌, drop}
use Rattle.av_perm.specs.Stat.{inversions}
use Rattle.av_perm.proofs.statistics.count_inversions.Given as goal

abbrev pub invariant-loop-i : goal.invariant-loop-i
invariant-loop-i l = l.count + inversions (drop l.i l.entries) ≡ inversions l.entries
