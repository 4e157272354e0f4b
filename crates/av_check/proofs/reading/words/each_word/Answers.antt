-- Each token that is the text of a word is one word more.
use Rattle.av_check.proofs.Loops.{read_more, read_none}
use Rattle.av_check.proofs.reading.words.each_word.Goals as goal

pub returns-in_default : goal.returns-in_default
returns-in_default c = read_none c.args.tokens.now c.loop-token.token-index _ c.loop-token-test.true c.in_default.ensures

pub loop-token-preserved : goal.loop-token-preserved
loop-token-preserved c =
    let w = c.in-Some.ensures in
    rw c.in_ok-push.ensures.ok (read_more _ c.in-Some.word c.loop-token-test.true w.0 w.1 c.loop-token.invariant)
