-- A minimal word leaves no such word, and one that leaves none is minimal.
use Rattle.std.proofs.Common.{refl, sym, arith, true≢false}
use Rattle.av_union.proofs.Covers.{minimal_from, minimal_to}
use Rattle.av_union.proofs.leaving_out.is_minimal.Goals as goal

pub returns-then-is_in_both_without : goal.returns-then-is_in_both_without
returns-then-is_in_both_without c = (
  λ t. absurd (true≢false (sym t)),
  λ m. absurd (minimal_to c.args.first.now c.args.second.now c.args.word.now c.loop-place.place
      (omega (arith, c.loop-place-test.true, c.len-place-end.ensures.value)) (c.is_in_both_without.ensures.0 c.if-is_in_both_without.true) m),
)

pub returns : goal.returns
returns c = (
  λ t. minimal_from c.args.first.now c.args.second.now c.args.word.now c.requires
      (λ s h. c.loop-place.invariant s (omega (arith, c.loop-place-test.false, c.len-place-end.ensures.value, h))),
  λ m. refl,
)
