-- The entries from the loop's place on descend.
use Rattle.std.proofs.Common.{◌<◌, length, drop, IsTrue}
use Rattle.av_perm.specs.LexOrder.{descends}
use Rattle.av_perm.proofs.lex.last_descent.Given as goal

abbrev pub invariant-loop-start : goal.invariant-loop-start
invariant-loop-start l = record { within : l.start < length l.entries; descends : IsTrue (descends (drop l.start l.entries)) }

abbrev pub decreases-loop-start : goal.decreases-loop-start
decreases-loop-start l = l.start
