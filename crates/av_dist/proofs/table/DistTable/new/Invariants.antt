-- The rows of the sizes up to the loop's.
use Rattle.std.proofs.Common.{◌≡◌}
use Rattle.av_dist.proofs.table.DistTable.new.Given as goal

abbrev pub invariant-loop-below : goal.invariant-loop-below
invariant-loop-below l = record {
  system : l.levels.system ≡ l.system;
  kind : l.levels.kind ≡ l.fn.kind;
  largest : l.levels.largest ≡ l.below;
}
