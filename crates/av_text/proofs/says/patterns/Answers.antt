-- Each token turns the words that were read into those and one more.
use Rattle.std.proofs.lemmas.Result.{err_from_is_err_and}
use Rattle.av_text.proofs.PatternWords.{pattern_turn, pattern_fault, pattern_end}
use Rattle.av_text.proofs.says.patterns.Goals as goal

pub returns-in_err-word : goal.returns-in_err-word
returns-in_err-word c =
    let p = err_from_is_err_and c.from_residual.result c.from_residual.ensures.1 in
    rw (p.1, p.2) (pattern_fault c.loop-token.words c.args.tokens.now c.loop-token.token-index _ _ _ c.loop-token-test.true c.in_err-word.ensures c.loop-token.invariant)

pub loop-token-preserved : goal.loop-token-preserved
loop-token-preserved c =
    rw c.in_ok-push.ensures.ok (pattern_turn c.loop-token.words c.args.tokens.now c.loop-token.token-index _ _ _ c.loop-token-test.true c.in_ok-word.ensures c.loop-token.invariant)

pub returns : goal.returns
returns c = pattern_end c.loop-token.words c.args.tokens.now c.loop-token.token-index _ c.loop-token-test.false c.loop-token.invariant
