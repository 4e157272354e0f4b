-- Each piece that is the text of a child is one child more.
use Rattle.av_check.proofs.Loops.{read_more, read_all, read_none}
use Rattle.av_check.proofs.reading.terms.each_child.Goals as goal

pub returns-in_default : goal.returns-in_default
returns-in_default c = read_none c.args.pieces.now c.loop-piece.piece-index _ c.loop-piece-test.true c.in_default.ensures

pub loop-piece-preserved : goal.loop-piece-preserved
loop-piece-preserved c =
    let w = c.in-Some.ensures in
    rw c.in_ok-push.ensures.ok (read_more _ c.in-Some.child c.loop-piece-test.true w.0 w.1 c.loop-piece.invariant)

pub returns : goal.returns
returns c = read_all c.loop-piece-test.false c.loop-piece.invariant
