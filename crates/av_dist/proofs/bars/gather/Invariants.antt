-- The bars of the values before the loop's.
use Rattle.std.proofs.Common.{◌≡◌}
use Rattle.av_perm.specs.Relations.{at}
use Rattle.av_bars.specs.Distributions.{dist_bars}
use Rattle.av_dist.proofs.bars.gather.Given as goal

abbrev pub invariant-loop-value : goal.invariant-loop-value
invariant-loop-value l = l.bars ≡ dist_bars (at l.row) l.value
