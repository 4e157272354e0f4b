-- The way back from here is the way back, and the cells of the cuts are of the rows.
use Rattle.std.proofs.Common.{Option, length, reverse}
use Rattle.av_split.specs.declared.path.Path.{Path}
use Rattle.av_split.specs.Paths.{AreTurns, GoesBack}
use Rattle.av_split.proofs.path.back.Given as goal

abbrev pub invariant-loop-turn : goal.invariant-loop-turn
invariant-loop-turn g l = record {
  cells : AreTurns l.table l.path.turns.items l.path.rows.items;
  way : (next : Option (Path _)) → GoesBack l.table (reverse l.path.turns.items) l.path.rows.items next → GoesBack l.table (reverse l.fn.path.turns.items) l.fn.path.rows.items next;
}

abbrev pub decreases-loop-turn : goal.decreases-loop-turn
decreases-loop-turn g l = length l.path.turns.items
