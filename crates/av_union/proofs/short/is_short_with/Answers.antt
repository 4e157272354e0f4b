-- One word that is too long is enough; else one more is short enough, and at the end all are.
use Rattle.std.proofs.Common.{◌+◌, ◌≤◌, length, refl, sym, arith, true≢false}
use Rattle.av_union.specs.declared.limits.TheConstants.{MAX_OVERLAY_LENGTH}
use Rattle.av_union.proofs.ListSteps.{item_In, through_more, through_all}
use Rattle.av_union.proofs.short.is_short_with.Goals as goal

pub returns-then-len-gt-MAX_OVERLAY_LENGTH : goal.returns-then-len-gt-MAX_OVERLAY_LENGTH
returns-then-len-gt-MAX_OVERLAY_LENGTH c = (
  λ t. absurd (true≢false (sym t)),
  λ f.
      let i = item_In c.args.others.now c.loop-other.other-index c.other-item.result c.loop-other-test.true c.other-item.is in
      absurd (omega (arith, f c.other-item.result i, c.if-len-gt-MAX_OVERLAY_LENGTH.true, c.len.ensures.value, c.len-in-loop-other.ensures.value)),
)

pub loop-other-preserved : goal.loop-other-preserved
loop-other-preserved c =
    through_more c.args.others.now c.loop-other.other-index (λ g. length c.args.word.now + length g ≤ MAX_OVERLAY_LENGTH) c.other-item.result c.loop-other-test.true c.other-item.is
    c.loop-other.invariant (omega (arith, c.if-len-gt-MAX_OVERLAY_LENGTH.false, c.len.ensures.value, c.len-in-loop-other.ensures.value))

pub returns : goal.returns
returns c = (
  λ t.
      through_all c.args.others.now c.loop-other.other-index (λ g. length c.args.word.now + length g ≤ MAX_OVERLAY_LENGTH) (omega (arith, c.loop-other-test.false))
      c.loop-other.invariant,
  λ f. refl,
)
