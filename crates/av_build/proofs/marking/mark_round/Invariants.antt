-- The equations from number i on were gone through.
use Rattle.av_build.proofs.MarkRounds.{IsRoundFrom}
use Rattle.av_build.proofs.marking.mark_round.Given as goal

abbrev pub invariant-loop-i : goal.invariant-loop-i
invariant-loop-i l = IsRoundFrom l.equations l.initial.marks l.marks l.changed l.i
