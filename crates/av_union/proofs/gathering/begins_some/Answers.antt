-- One of the words begins so, or none of those gone through.
use Rattle.std.proofs.Common.{◌≡◌, false, sym, ◌∙◌, arith}
use Rattle.av_union.specs.Growth.{begins_at}
use Rattle.av_union.proofs.ListSteps.{item_In, through_more, through_all}
use Rattle.av_union.proofs.gathering.begins_some.Goals as goal

pub returns-then-begins-clause-some : goal.returns-then-begins-clause-some
returns-then-begins-clause-some c = λ t. (
  c.pattern-item.result,
  item_In c.args.second.now c.loop-pattern.pattern-index c.pattern-item.result c.loop-pattern-test.true c.pattern-item.is,
  sym c.begins.ensures ∙ c.if-begins.true,
)

pub loop-pattern-preserved : goal.loop-pattern-preserved
loop-pattern-preserved c =
    let x = c.args.partial.now in
    through_more c.args.second.now c.loop-pattern.pattern-index (λ g. begins_at x.word x.places.items g ≡ false) c.pattern-item.result c.loop-pattern-test.true c.pattern-item.is
    c.loop-pattern.invariant (sym c.begins.ensures ∙ c.if-begins.false)

pub returns-clause-none : goal.returns-clause-none
returns-clause-none c = λ t.
    let x = c.args.partial.now in
    through_all c.args.second.now c.loop-pattern.pattern-index (λ g. begins_at x.word x.places.items g ≡ false) (omega (arith, c.loop-pattern-test.false)) c.loop-pattern.invariant
