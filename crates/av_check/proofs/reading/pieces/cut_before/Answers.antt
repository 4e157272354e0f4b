-- The first token that is the known one is found, since none before it was.
use Rattle.std.proofs.Common.{refl, sym, true≢false}
use Rattle.av_check.proofs.Loops.{cut_here, none_more}
use Rattle.av_check.proofs.reading.pieces.cut_before.Goals as goal

pub returns-then-is : goal.returns-then-is
returns-then-is c = (cut_here c.args.tokens.now c.loop-at.at _ c.args.known.now c.loop-at-test.true (c.if-is.ensures.0 refl), c.loop-at.invariant)

pub loop-at-preserved : goal.loop-at-preserved
loop-at-preserved c =
    none_more c.args.tokens.now c.loop-at.at _ c.args.known.now c.loop-at-test.true (λ e. true≢false (sym (c.if-is.ensures.1 e))) c.loop-at.invariant
