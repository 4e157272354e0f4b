-- The blocks lie in the word and are shorter, and their trees make the tree of the word.
use Rattle.std.proofs.Common.{◌≡◌, ℕ, ◌∙◌, List, map, length, take_all, Some, None, arith, sym, ap, subst}
use Rattle.av_perm.proofs.PermWords.{perm_word, perm_short}
use Rattle.av_interval.specs.declared.spans.Span.{Span}
use Rattle.av_interval.specs.Intervals.{Tiles}
use Rattle.av_decomp.specs.Blocks.{blocks_at}
use Rattle.av_decomp.specs.Shapes.{HasBlocks}
use Rattle.av_decomp.specs.RootTrees.{RootTree, as_trees}
use Rattle.av_decomp.specs.Trees.{dec, Keeps, IsTreeOf}
use Rattle.av_decomp.proofs.SpanNumbers.{span_within}
use Rattle.av_decomp.proofs.Decompositions.{span_shorter}
use Rattle.av_decomp.proofs.DecompositionTrees.{tree_law, dec_node, dec_one}
use Rattle.av_decomp.proofs.FormedTrees.{dec_keeps}
use Rattle.av_decomp.proofs.trees.+tree.Goals as goal

pub block-requires-clause-low : goal.block-requires-clause-low
block-requires-clause-low t c =
    let h = subst (Tiles 1 (length c.args.word.now)) (sym c.as_slice-span-items.ensures) c.in-Inflated.ensures.cover in
    (span_within c.as_slice-span-items.result.now 1 (length c.args.word.now) c.loop-span.span-index h c.loop-span-test.true).0

pub block-requires-clause-order : goal.block-requires-clause-order
block-requires-clause-order t c =
    let h = subst (Tiles 1 (length c.args.word.now)) (sym c.as_slice-span-items.ensures) c.in-Inflated.ensures.cover in
    (span_within c.as_slice-span-items.result.now 1 (length c.args.word.now) c.loop-span.span-index h c.loop-span-test.true).1

pub block-requires-clause-high : goal.block-requires-clause-high
block-requires-clause-high t c =
    let h = subst (Tiles 1 (length c.args.word.now)) (sym c.as_slice-span-items.ensures) c.in-Inflated.ensures.cover in
    (span_within c.as_slice-span-items.result.now 1 (length c.args.word.now) c.loop-span.span-index h c.loop-span-test.true).2

pub tree-requires : goal.tree-requires
tree-requires t c =
    let h = subst (HasBlocks c.args.word.now c.in-Inflated.root) (sym c.as_slice-span-items.ensures) c.in-Inflated.ensures in
    let l = span_shorter c.args.word.now c.in-Inflated.root c.as_slice-span-items.result.now c.loop-span.span-index h c.loop-span-test.true in
    let e = ap (λ (w : List ℕ). length w) c.block.ensures in
    (omega (arith, l, e), tt)

-- the trees of all blocks
all_blocks : (t : ℕ) (c : goal.After-loop-span t) → record { root = Some c.in-Inflated.root; blocks = as_trees c.loop-span.blocks.items } ≡ dec c.args.word.now
all_blocks t c =
    let h = c.in-Inflated.ensures in
    let g = perm_word c.args.word.now c.len-points.ensures.word in
    ap (λ (ts : List RootTree). let r : RootTree = record { root = Some c.in-Inflated.root; blocks = as_trees ts } in r)
    (c.loop-span.invariant ∙ ap (λ (s : List Span). map dec (blocks_at c.args.word.now s)) (take_all c.loop-span.span-index c.as_slice-span-items.result.now c.loop-span-test.false ∙ c.as_slice-span-items.ensures))
    ∙ sym (dec_node c.args.word.now c.in-Inflated.root (blocks_at c.args.word.now c.in-Inflated.spans) g h.blocks h.computed)

pub invariant_of-result-in-Inflated : goal.invariant_of-result-in-Inflated
invariant_of-result-in-Inflated t c =
    let g = perm_word c.args.word.now c.len-points.ensures.word in
    subst (λ r. Keeps r c.len-points.result) (sym (all_blocks t c)) (dec_keeps c.args.word.now c.len-points.result g (perm_short c.args.word.now c.len-points.ensures.word) c.len-points.ensures.value)

pub returns-after-loop-span : goal.returns-after-loop-span
returns-after-loop-span t c = record {
  value = all_blocks t c;
  decomposition = subst (IsTreeOf c.args.word.now) (sym (all_blocks t c)) (tree_law c.args.word.now (perm_word c.args.word.now c.len-points.ensures.word)).tree;
}

pub returns-in-One : goal.returns-in-One
returns-in-One t c =
    let e = ap (λ (ts : List RootTree). let r : RootTree = record { root = None; blocks = as_trees ts } in r) c.new.ensures.items ∙ sym (ap dec c.in-One.ensures ∙ dec_one) in
    record {
      value = e;
      decomposition = subst (IsTreeOf c.args.word.now) (sym e) (tree_law c.args.word.now (perm_word c.args.word.now c.len-points.ensures.word)).tree;
    }
