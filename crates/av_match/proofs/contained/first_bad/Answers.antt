-- The word after those seen is not contained, and at the end none is.
use Rattle.std.proofs.Common.{arith, sym, ◌∙◌}
use Rattle.av_match.proofs.Missed.{not_contained, missed_more, all_missed}
use Rattle.av_match.proofs.contained.first_bad.Goals as goal

pub loop-index-preserved : goal.loop-index-preserved
loop-index-preserved c =
    missed_more c.args.word.now c.args.basis.now c.loop-index.index c.get.result.now c.loop-index.invariant c.get.ensures
    (not_contained c.args.word.now c.get.result.now (sym c.find.ensures ∙ c.in_default.is))

pub returns : goal.returns
returns c = all_missed c.args.word.now c.args.basis.now (λ k other h. c.loop-index.invariant k other (omega arith))
