-- What is left to add.
use Rattle.std.proofs.Common.{◌≡◌, ◌+◌, drop, get_or}
use Rattle.av_tree.specs.Picks.{picks_below}
use Rattle.av_tree.proofs.writing.raise_of.Given as goal

abbrev pub invariant-loop-j : goal.invariant-loop-j
invariant-loop-j l = l.sum + picks_below (get_or l.entries l.i 0) (drop l.j l.entries) (drop l.j l.picks) ≡ picks_below (get_or l.entries l.i 0) l.entries l.picks
