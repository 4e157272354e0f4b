-- The equations before the loop's hold the size.
use Rattle.std.proofs.Common.{◌<◌, ◌+◌, ℕ, [], get_or}
use Rattle.av_sys.specs.TreeLists.{count_at}
use Rattle.av_count.specs.Tables.{RowHolds, IsFilled}
use Rattle.av_count.proofs.table.fill_counts.Given as goal

abbrev pub invariant-loop-eq : goal.invariant-loop-eq
invariant-loop-eq l = record {
  all : IsFilled l.layout l.size l.counts l.rests;
  done : (k : ℕ) → k < l.eq → RowHolds (count_at l.layout.of.value k) (l.layout.largest + 1) (l.size + 1) (get_or l.counts k []);
}
