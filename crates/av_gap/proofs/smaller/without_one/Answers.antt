-- The first place that leaves a simple pattern.
use Rattle.std.proofs.Common.{inl, inr, arith, sym, subst, ◌∙◌}
use Rattle.std.proofs.lemmas.Bool.{cases_eq}
use Rattle.av_interval.specs.Laws.{LeavesSimple}
use Rattle.av_gap.proofs.Tried.{tested, left_is, place_leaves, place_not, place_near}
use Rattle.av_gap.proofs.smaller.without_one.Goals as goal

pub returns-then-is_simple-clause-near : goal.returns-then-is_simple-clause-near
returns-then-is_simple-clause-near c =
    place_near c.args.word.now (tested c.args.word.now c.len-len.ensures.word c.requires.simple) c.left_without-left.result c.loop-place.place
    (omega (arith, c.loop-place-test.true, c.len-len.ensures.value)) c.left_without-left.ensures (sym c.is_simple.ensures ∙ c.if-is_simple.true)

pub returns-then-is_simple-clause-first : goal.returns-then-is_simple-clause-first
returns-then-is_simple-clause-first c =
    let s = tested c.args.word.now c.len-len.ensures.word c.requires.simple in (
      c.loop-place.place,
      record {
        simple = place_leaves c.args.word.now s c.left_without-left.result c.loop-place.place
            (omega (arith, c.loop-place-test.true, c.len-len.ensures.value)) c.left_without-left.ensures (sym c.is_simple.ensures ∙ c.if-is_simple.true);
        least = c.loop-place.invariant;
        left = left_is c.args.word.now s c.left_without-left.result c.loop-place.place c.left_without-left.ensures;
      },
    )

pub loop-place-preserved : goal.loop-place-preserved
loop-place-preserved c = λ k h q. elim (cases_eq k c.loop-place.place) [
  | inl e ↦ place_not c.args.word.now (tested c.args.word.now c.len-len.ensures.word c.requires.simple) c.left_without-left.result c.loop-place.place
      c.left_without-left.ensures (sym c.is_simple.ensures ∙ c.if-is_simple.false) (subst (LeavesSimple c.args.word.now) e q)
  | inr ne ↦ c.loop-place.invariant k (omega (arith, h, ne)) q
]

pub returns-clause-none : goal.returns-clause-none
returns-clause-none c = λ e k q. c.loop-place.invariant k (omega (arith, q.within, c.loop-place-test.false, c.len-len.ensures.value)) q
