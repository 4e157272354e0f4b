-- The terms gone through told no more than what was found.
use Rattle.std.proofs.Common.{drop}
use Rattle.av_split.specs.Cells.{known_at}
use Rattle.av_walk.proofs.SiftedTerms.{Sifts}
use Rattle.av_walk.proofs.sifting.sift.Given as goal

abbrev pub invariant-loop-i : goal.invariant-loop-i
invariant-loop-i l = Sifts (known_at l.rows) l.terms l.numbers l.sifted (drop l.i-index l.numbers)
