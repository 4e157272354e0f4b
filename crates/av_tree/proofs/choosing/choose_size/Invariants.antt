-- The place is past the sizes before this one.
use Rattle.std.proofs.Common.{◌≡◌, ◌≤◌, ◌+◌, ◌*◌, ◌-◌, ℕ, drop, get_or}
use Rattle.av_count.specs.Counts.{capped}
use Rattle.av_count.specs.Choices.{ways, ahead}
use Rattle.av_sys.specs.TreeLists.{count_at}
use Rattle.av_tree.proofs.choosing.choose_size.Given as goal

abbrev pub invariant-loop-less : goal.invariant-loop-less
invariant-loop-less l = record {
  least : 1 ≤ l.at;
  most : l.at ≤ l.size;
  place : (F : ℕ) → l.factor ≡ capped F → l.left + F * ahead (count_at l.table.system (get_or l.children l.i 0)) (ways (count_at l.table.system) (drop (l.i + 1) l.children)) l.size 1 (l.at - 1) ≡ l.r;
}

abbrev pub decreases-loop-less : goal.decreases-loop-less
decreases-loop-less l = l.size - l.at
