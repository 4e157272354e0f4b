-- The children that were read are those of the pieces gone over.
use Rattle.std.proofs.Common.{◌<◌}
use Rattle.av_print.specs.Systems.{number_text}
use Rattle.av_check.proofs.Loops.{HaveRead}
use Rattle.av_check.proofs.reading.terms.each_child.Given as goal

abbrev pub invariant-loop-piece : goal.invariant-loop-piece
invariant-loop-piece l = HaveRead (λ c. c < l.count) number_text l.children l.pieces l.piece-index
