-- The entries after the loop's place are below the pivot.
use Rattle.std.proofs.Common.{◌+◌, ◌<◌, length, drop, IsTrue, slice_index}
use Rattle.av_perm.specs.LexOrder.{are_below}
use Rattle.av_perm.proofs.lex.last_above.Given as goal

abbrev pub invariant-loop-at : goal.invariant-loop-at
invariant-loop-at l = record {
  after : l.pivot < l.at;
  within : l.at < length l.entries;
  last : IsTrue (are_below (slice_index l.entries l.pivot) (drop (l.at + 1) l.entries));
}

abbrev pub decreases-loop-at : goal.decreases-loop-at
decreases-loop-at l = l.at
