-- Two entries lie otherwise than those of the pattern, or all lie as they do.
use Rattle.std.proofs.Common.{arith}
use Rattle.av_union.proofs.GrownWords.{lies_otherwise, all_alike}
use Rattle.av_union.proofs.partials.lie_alike.Goals as goal

pub returns-then-word-places : goal.returns-then-word-places
returns-then-word-places c =
    lies_otherwise c.args.word.now c.args.places.now c.args.pattern.now c.loop-i.i c.loop-j.j c.loop-i-test.true c.loop-j-test.true (λ g. grind (arith, g))

pub returns : goal.returns
returns c =
    all_alike c.args.word.now c.args.places.now c.args.pattern.now (omega (arith, c.if-pattern-places.false))
    (λ s t hs ht. c.loop-i.invariant s t (omega (arith, c.loop-i-test.false)) ht)
