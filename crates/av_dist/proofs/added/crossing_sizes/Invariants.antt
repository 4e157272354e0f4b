-- The sum so far with what the places from the loop's on add is the whole.
use Rattle.std.proofs.Common.{◌≡◌, ◌+◌, ◌*◌, ◌≤◌, drop}
use Rattle.av_dist.specs.Crossing.{crossing}
use Rattle.av_dist.proofs.added.crossing_sizes.Given as goal

abbrev pub invariant-loop-i : goal.invariant-loop-i
invariant-loop-i l = record {
  sum : l.sum + crossing (drop l.i l.root) (drop l.i l.sizes) ≡ crossing l.root l.sizes;
  most : l.sum ≤ 255 * 2550 * l.i;
}
