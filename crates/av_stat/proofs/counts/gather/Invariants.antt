-- The bars of the values before the loop's are there.
use Rattle.std.proofs.Common.{◌≡◌, get_or}
use Rattle.av_bars.specs.Histograms.{bars_of}
use Rattle.av_stat.proofs.counts.gather.Given as goal

abbrev pub invariant-loop-value : goal.invariant-loop-value
invariant-loop-value l = l.bars ≡ bars_of (λ v. get_or l.counts v 0) l.value
