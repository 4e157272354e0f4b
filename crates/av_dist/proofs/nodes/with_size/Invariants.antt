-- The sizes before the loop's are there.
use Rattle.std.proofs.Common.{◌≡◌, take}
use Rattle.av_dist.proofs.nodes.with_size.Given as goal

abbrev pub invariant-loop-earlier : goal.invariant-loop-earlier
invariant-loop-earlier l = l.longer.items ≡ take l.earlier-index l.sizes
