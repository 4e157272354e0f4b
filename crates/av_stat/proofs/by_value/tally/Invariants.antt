-- The items that came are counted, and the others are left.
use Rattle.std.proofs.Common.{◌≡◌, ◌++◌, length}
use Rattle.av_bars.specs.Histograms.{Tallied}
use Rattle.av_stat.specs.Listed.{words_of}
use Rattle.av_stat.proofs.by_value.tally.Given as goal

abbrev pub invariant-loop-item : goal.invariant-loop-item
invariant-loop-item g l = record {
  left : l.yielded ++ l.item-iterator ≡ l.fn.lister;
  width : length l.counts ≡ 12721;
  tallied : Tallied l.stat.kind l.counts (words_of l.yielded);
}
