-- Fewer words than there are were taken.
use Rattle.std.proofs.Common.{arith, ◌≡◌, ◌<◌, slice_get, Some, subst}
use Rattle.av_perm.specs.Word.{words}
use Rattle.av_text.proofs.DemoWords.{next_left, none_left, found_word, found_short}
use Rattle.av_text.proofs.demo.word_at.Goals as goal

pub loop-preserved : goal.loop-preserved
loop-preserved c = next_left c.loop.counter c.next-before.result c.loop.words c.next-before.new.self (omega (arith, c.loop-test.true, c.requires)) c.next-before.ensures.steps c.loop.invariant

pub returns-in-Some-clause-word : goal.returns-in-Some-clause-word
returns-in-Some-clause-word c =
    let e : c.loop.counter ≡ c.args.place = omega (arith, c.loop-test.false, c.loop.auto.counter-end) in
    let h : c.loop.counter < 24 = omega (arith, c.requires, c.loop.auto.counter-end) in
    subst (λ k. slice_get (words 4) k ≡ Some c.in-Some.word) e (found_word c.loop.counter c.in-Some.word c.loop.words c.next.new.self h c.in-Some.ensures.steps c.loop.invariant)

pub returns-in-Some-clause-short : goal.returns-in-Some-clause-short
returns-in-Some-clause-short c =
    let h : c.loop.counter < 24 = omega (arith, c.requires, c.loop.auto.counter-end) in
    found_short c.loop.counter c.in-Some.word c.loop.words c.next.new.self h c.in-Some.ensures.steps c.loop.invariant

pub returns-in-None-clause-word : goal.returns-in-None-clause-word
returns-in-None-clause-word c =
    let h : c.loop.counter < 24 = omega (arith, c.requires, c.loop.auto.counter-end) in
    absurd (none_left c.loop.counter c.loop.words h c.in-None.ensures.steps.0 c.loop.invariant)

pub returns-in-None-clause-short : goal.returns-in-None-clause-short
returns-in-None-clause-short c =
    let h : c.loop.counter < 24 = omega (arith, c.requires, c.loop.auto.counter-end) in
    absurd (none_left c.loop.counter c.loop.words h c.in-None.ensures.steps.0 c.loop.invariant)
