-- The sum so far with the sizes of the places from the loop's on is the whole.
use Rattle.std.proofs.Common.{◌≡◌, ◌+◌, ◌*◌, ◌≤◌, drop, get_or}
use Rattle.av_dist.specs.Crossing.{lesser}
use Rattle.av_dist.proofs.added.lesser_sizes.Given as goal

abbrev pub invariant-loop-j : goal.invariant-loop-j
invariant-loop-j l = record {
  sum : l.sum + lesser (get_or l.root l.i 0) (drop l.j l.root) (drop l.j l.sizes) ≡ lesser (get_or l.root l.i 0) (drop (l.i + 1) l.root) (drop (l.i + 1) l.sizes);
  most : l.sum ≤ 255 * l.j;
}
