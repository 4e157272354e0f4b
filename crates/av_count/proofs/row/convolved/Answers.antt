-- One more size adds the pairs with it, none if there is no tree of that size; and a sum that is over stays so.
use Rattle.std.proofs.Common.{◌≡◌, ◌+◌, ◌-◌, ◌*◌, ◌<◌, ◌≤◌, ◌^◌, refl, sym, ◌∙◌, ap, arith, eqb-true}
use Rattle.std.proofs.lemmas.Bool.{leb-true}
use Rattle.av_count.specs.Counts.{capped}
use Rattle.av_count.specs.Choices.{ahead}
use Rattle.av_count.proofs.Sums.{still_over, ahead_grows, size_more, size_none}
use Rattle.av_count.proofs.row.convolved.Goals as goal

pub loop-m-init : goal.loop-m-init
unfolding capped
loop-m-init c = record { within = omega arith; pairs = λ f g hf hg. refl }

pub loop-m-preserved : goal.loop-m-preserved
loop-m-preserved c =
    let m = c.loop-m.m in
    let n = c.args.size in
    let one : 1 ≤ m = omega (arith, c.loop-m.auto.m) in
    let less : m < n = omega (arith, c.loop-m-test.true) in
    record {
      within = omega (arith, one, less);
      pairs = λ f g hf hg.
          let times : c.times.result ≡ capped (f m * g (n - m)) =
          c.times.ensures (f m) (g (n - m)) (c.get-count.ensures ∙ hf m less) (c.get.ensures ∙ hg (n - m) (omega (arith, one, less))) in
          c.plus-sum.ensures (ahead f g n 1 (m - 1)) (f m * g (n - m)) (c.loop-m.invariant.pairs f g hf hg) times ∙ ap capped (size_more f g n m one);
    }

pub loop-m-preserved-then-is_zero : goal.loop-m-preserved-then-is_zero
loop-m-preserved-then-is_zero c =
    let m = c.loop-m.m in
    let one : 1 ≤ m = omega (arith, c.loop-m.auto.m) in
    let less : m < c.args.size = omega (arith, c.loop-m-test.true) in
    record {
      within = omega (arith, one, less);
      pairs = λ f g hf hg.
          let none = eqb-true (f m) 0 (sym (c.is_zero.ensures (f m) (c.get-count.ensures ∙ hf m less)) ∙ c.if-is_zero.true) in
          c.loop-m.invariant.pairs f g hf hg ∙ ap capped (size_none f g c.args.size m one none);
    }

pub returns-then-is_over : goal.returns-then-is_over
returns-then-is_over c f g hf hg =
    let m = c.loop-m.m in
    let n = c.args.size in
    let times : c.times.result ≡ capped (f m * g (n - m)) =
    c.times.ensures (f m) (g (n - m)) (c.get-count.ensures ∙ hf m (omega (arith, c.loop-m-test.true))) (c.get.ensures ∙ hg (n - m) (omega (arith, c.loop-m-test.true, c.loop-m.auto.m))) in
    let sum = c.plus-sum.ensures (ahead f g n 1 (m - 1)) (f m * g (n - m)) (c.loop-m.invariant.pairs f g hf hg) times ∙ ap capped (size_more f g n m (omega (arith, c.loop-m.auto.m))) in
    let over = leb-true (2 ^ 128) (ahead f g n 1 (m + 1 - 1)) (sym (c.is_over.ensures (ahead f g n 1 (m + 1 - 1)) sum) ∙ c.if-is_over.true) in
    sum ∙ still_over (ahead f g n 1 (m + 1 - 1)) (ahead f g n 1 (n - 1)) over (ahead_grows f g n 1 (m + 1 - 1) (n - 1) (omega (arith, c.loop-m-test.true)))

pub returns : goal.returns
returns c f g hf hg =
    let e : c.loop-m.m - 1 ≡ c.args.size - 1 = omega (arith, c.loop-m-test.false, c.loop-m.invariant.within) in
    c.loop-m.invariant.pairs f g hf hg ∙ ap (λ k. capped (ahead f g c.args.size 1 k)) e
