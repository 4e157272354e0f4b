-- The lists of the sizes before the loop's.
use Rattle.std.proofs.Common.{◌≡◌, ◌+◌, ◌*◌, ℕ, drop, get_or}
use Rattle.av_count.specs.Counts.{capped}
use Rattle.av_count.specs.Choices.{ways, ahead}
use Rattle.av_sys.specs.TreeLists.{count_at}
use Rattle.av_tree.proofs.placing.smaller.Given as goal

abbrev pub invariant-loop-m : goal.invariant-loop-m
invariant-loop-m l = (F : ℕ) → l.factor ≡ capped F → l.sum ≡ capped (F * ahead (count_at l.table.system (get_or l.children l.i 0)) (ways (count_at l.table.system) (drop (l.i + 1) l.children)) l.size 1 l.m)
