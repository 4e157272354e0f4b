-- The numbers of the last k children are added.
use Rattle.std.proofs.Common.{◌≡◌, ◌-◌, ◌++◌, drop, length, reverse}
use Rattle.av_list.specs.Words.{raises}
use Rattle.av_list.proofs.word.add_raises.Given as goal

abbrev pub invariant-loop-k : goal.invariant-loop-k
invariant-loop-k l = l.out.items ≡ l.fn.out.items ++ reverse (raises l.raise l.root l.sizes (drop (length l.root - l.k) l.root))
