-- What is left to add.
use Rattle.std.proofs.Common.{◌≡◌, ◌+◌, drop, get_or}
use Rattle.av_list.specs.Words.{sizes_below}
use Rattle.av_list.proofs.word.raise_of.Given as goal

abbrev pub invariant-loop-j : goal.invariant-loop-j
invariant-loop-j l = l.sum + sizes_below (get_or l.entries l.i 0) (drop l.j l.entries) (drop l.j l.sizes) ≡ sizes_below (get_or l.entries l.i 0) l.entries l.sizes
