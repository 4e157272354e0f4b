-- The terms that were read, with the bars before them, and the tokens that are left are all tokens.
use Rattle.std.proofs.Common.{length}
use Rattle.av_check.proofs.Loops.{bytes}
use Rattle.av_check.proofs.Terms.{HaveBars}
use Rattle.av_check.proofs.reading.terms.barred_terms.Given as goal

abbrev pub invariant-loop-left : goal.invariant-loop-left
invariant-loop-left l = HaveBars l.count l.terms (bytes l.left) (bytes l.tokens)

abbrev pub decreases-loop-left : goal.decreases-loop-left
decreases-loop-left l = length l.left
