-- The pairs of the sizes before the loop's.
use Rattle.std.proofs.Common.{◌≡◌, ◌<◌, ◌≤◌, ◌-◌, ℕ}
use Rattle.av_count.specs.Counts.{capped}
use Rattle.av_count.specs.Choices.{ahead}
use Rattle.av_count.specs.Tables.{cell}
use Rattle.av_count.proofs.row.convolved.Given as goal

abbrev pub invariant-loop-m : goal.invariant-loop-m
invariant-loop-m l = record {
  within : l.m - 1 ≤ l.size - 1;
  pairs : (f g : ℕ → ℕ) → ((m : ℕ) → m < l.size → cell l.first m ≡ capped (f m)) → ((m : ℕ) → m < l.size → cell l.rest m ≡ capped (g m)) → l.sum ≡ capped (ahead f g l.size 1 (l.m - 1));
}
