-- One word that is too long beside some of the other list is enough; else one more is short enough, and at the end all are.
use Rattle.std.proofs.Common.{ℕ, List, ◌+◌, ◌≤◌, length, refl, sym, ◌∙◌, subst, arith, true≢false}
use Rattle.av_perm.specs.Members.{In}
use Rattle.av_union.specs.declared.limits.TheConstants.{MAX_OVERLAY_LENGTH}
use Rattle.av_union.proofs.ListSteps.{item_In, through_more, through_all}
use Rattle.av_union.proofs.short.are_short.Goals as goal

pub returns-then-not-is_short_with : goal.returns-then-not-is_short_with
returns-then-not-is_short_with c = (
  λ t. absurd (true≢false (sym t)),
  λ a.
      let i = item_In c.as_slice-word-items.result.now c.loop-word.word-index c.word-item.result c.loop-word-test.true c.word-item.is in
      let j = subst (λ (l : List (List ℕ)). In c.word-item.result l) c.as_slice-word-items.ensures i in
      let all = c.is_short_with.ensures.1 (λ g k. a c.word-item.result g j (subst (λ (l : List (List ℕ)). In g l) c.as_slice.ensures k)) in
      absurd (true≢false (sym all ∙ c.if-not-is_short_with.true)),
)

pub loop-word-preserved : goal.loop-word-preserved
loop-word-preserved c =
    through_more c.as_slice-word-items.result.now c.loop-word.word-index (λ f. (g : List ℕ) → In g c.args.second.now → length f + length g ≤ MAX_OVERLAY_LENGTH)
    c.word-item.result c.loop-word-test.true c.word-item.is c.loop-word.invariant
    (λ g i. c.is_short_with.ensures.0 c.if-not-is_short_with.false g (subst (λ (l : List (List ℕ)). In g l) (sym c.as_slice.ensures) i))

pub returns : goal.returns
returns c = (
  λ t f g i j.
      through_all c.as_slice-word-items.result.now c.loop-word.word-index (λ f. (g : List ℕ) → In g c.args.second.now → length f + length g ≤ MAX_OVERLAY_LENGTH)
      (omega (arith, c.loop-word-test.false)) c.loop-word.invariant f (subst (λ (l : List (List ℕ)). In f l) (sym c.as_slice-word-items.ensures) i) g j,
  λ f. refl,
)
