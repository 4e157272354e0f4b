-- Those before the loop's place are counted, and the greatest entry before it is known.
use Rattle.std.proofs.Common.{◌≡◌}
use Rattle.av_perm.proofs.StatCounts.{IsGreatest, maxima_up_to}
use Rattle.av_perm.proofs.statistics.count_left_to_right_maxima.Given as goal

abbrev pub invariant-loop-entry : goal.invariant-loop-entry
invariant-loop-entry l = record {
  counted : l.count ≡ maxima_up_to l.entries l.entry-index;
  greatest : IsGreatest l.entries l.entry-index l.greatest;
}
