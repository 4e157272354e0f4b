-- The lines of the equations so far were taken.
use Rattle.std.proofs.Common.{◌≡◌, length}
use Rattle.av_check.specs.Reading.{TakesEquations}
use Rattle.av_check.proofs.reading.claims.told_equations.Given as goal

abbrev pub invariant-loop-number : goal.invariant-loop-number
invariant-loop-number l = record { takes : TakesEquations l.count l.equations l.fn.lines l.lines; so_many : length l.equations ≡ l.number }
