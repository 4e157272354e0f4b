-- The links before the loop's hold the size.
use Rattle.std.proofs.Common.{◌<◌, ◌+◌, ℕ, [], get_or}
use Rattle.av_count.specs.Tables.{LinkHolds, IsFilled}
use Rattle.av_count.proofs.table.fill_rests.Given as goal

abbrev pub invariant-loop-i : goal.invariant-loop-i
invariant-loop-i l = record {
  all : IsFilled l.layout l.size l.counts l.rests;
  done : (k : ℕ) → k < l.i → LinkHolds l.layout.of.value l.layout.links (l.layout.largest + 1) (l.size + 1) k (get_or l.rests k []);
}
