-- A block with a smaller root entry adds its length.
use Rattle.std.proofs.Common.{◌≡◌, ℕ, ◌+◌, ◌<◌, ◌≤◌, List, length, get_or, take, cond, ltb, add-one, ap, refl, ◌∙◌, arith, lt-ltb, le-ltb}
use Rattle.av_perm.specs.Word.{entry}
use Rattle.av_perm.specs.Inflate.{points_below, block}
use Rattle.av_perm.proofs.InflationSteps.{below_more, below_first_few, block_is}
use Rattle.av_perm.proofs.inflation.raise_of.Goals as goal
use Rattle.av_perm.proofs.inflation.raise_of.Goals.{then-entry, else-entry}

-- one more block, whose root entry is below v, or isn't
module _ (v x r k : ℕ) (π : List ℕ) (αs : List (List ℕ)) (hx : k < length π) (ha : k < length αs) (so_far : r ≡ points_below v (take k π) (take k αs)) (ex : x ≡ entry π (k + 1)) where
  here : x ≡ get_or π k 0
  here = ex ∙ ap (entry π) (add-one k)

  pub adds : (a : List ℕ) (n : ℕ) → x < v → n ≡ length a → a ≡ get_or αs k a → r + n ≡ points_below v (take (k + 1) π) (take (k + 1) αs)
  adds a n less en ea =
      let more = below_more v π αs k hx ha in
      let c : cond (ltb (get_or π k 0) v) (length (block αs k)) 0 ≡ length (block αs k) = rw (lt-ltb (get_or π k 0) v (omega (arith, here, less))) refl in
      rw (add-one k) (omega (arith, more, c, so_far, en, ap (λ (u : List ℕ). length u) (block_is αs k a ha ea)))

  pub adds_none : v ≤ x → r ≡ points_below v (take (k + 1) π) (take (k + 1) αs)
  adds_none least =
      let more = below_more v π αs k hx ha in
      let c : cond (ltb (get_or π k 0) v) (length (block αs k)) 0 ≡ 0 = rw (le-ltb (get_or π k 0) v (omega (arith, here, least))) refl in
      rw (add-one k) (omega (arith, more, c, so_far))

pub overflow_add-raise : goal.overflow_add-raise
overflow_add-raise c =
    omega (
      arith,
      adds c.entry-entry.result c.entry.result c.loop-k.raise c.loop-k.k c.args.root.now c.args.blocks.now (omega arith) (omega arith) c.loop-k.invariant c.entry.ensures
          c.index-blocks-k.result c.len.result c.if-entry.true c.len.ensures.value c.index-blocks-k.is,
      below_first_few c.entry-entry.result c.args.root.now c.args.blocks.now (c.loop-k.k + 1),
      c.requires.few,
    )

pub loop-k-preserved : goal.loop-k-preserved
loop-k-preserved c =
    elim c.if-entry.branch [
      | then-entry w ↦ w.raise-is ∙ adds c.entry-entry.result c.entry.result c.loop-k.raise c.loop-k.k c.args.root.now c.args.blocks.now (omega arith) (omega arith) c.loop-k.invariant c.entry.ensures
          w.index-blocks-k.result w.len.result w.if-entry.true w.len.ensures.value w.index-blocks-k.is
      | else-entry w ↦ w.raise-is ∙ adds_none c.entry-entry.result c.entry.result c.loop-k.raise c.loop-k.k c.args.root.now c.args.blocks.now (omega arith) (omega arith) c.loop-k.invariant c.entry.ensures w.if-entry.false
    ]
