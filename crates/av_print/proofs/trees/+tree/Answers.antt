-- What was written is the root, the first block, the others and the bracket, or a part of these.
use Rattle.std.proofs.Common.{◌-◌, codes, arith, rules}
use Rattle.std.proofs.KnownBytes.{Appends-trans}
use Rattle.std.proofs.lemmas.Result.{on_ok_weaker}
use Rattle.av_print.specs.Text.{tree_text}
use Rattle.av_print.proofs.Written.{part_more, part_step, up_to_part}
use Rattle.av_print.proofs.TreeTexts.{point_text, root_first, node_part, node_whole, block_less, no_others, others_turn, others_fault, others_end}
use Rattle.av_print.proofs.trees.+tree.Goals as goal

pub put_tree-returns-in_default-clause-whole : goal.put_tree-returns-in_default-clause-whole
put_tree-returns-in_default-clause-whole g t c = rw (point_text c.args.tree.now c.in_default.ensures.root) c.put.ensures.whole

pub put_tree-returns-in_default-clause-part : goal.put_tree-returns-in_default-clause-part
put_tree-returns-in_default-clause-part g t c = rw (point_text c.args.tree.now c.in_default.ensures.root) c.put.ensures.part

pub put_tree-returns-in_err-put_on-clause-part : goal.put_tree-returns-in_err-put_on-clause-part
put_tree-returns-in_err-put_on-clause-part g t c = rw (root_first c.args.tree.now c.in-Some.root.now c.in-Some.ensures.root) (part_more _ _ _ _ c.put_on.ensures.part)

pub put_tree-put_tree-requires : goal.put_tree-put_tree-requires
put_tree-put_tree-requires g t c κs within = (omega (arith, c.decreases, block_less c.args.tree.now c.child.result.now 0 c.child.ensures), search rules)

pub put_tree-returns-in_err-put_tree-clause-part : goal.put_tree-returns-in_err-put_tree-clause-part
put_tree-returns-in_err-put_tree-clause-part g t c =
    node_part c.args.tree.now c.child.result.now c.in-Some.root.now _ _ _ c.in-Some.ensures.root c.child.ensures c.in_ok-put_on.ensures.whole
    (part_more _ _ _ _ c.put_tree.ensures.part)

pub put_tree-returns-in_err-put_others-clause-part : goal.put_tree-returns-in_err-put_others-clause-part
put_tree-returns-in_err-put_others-clause-part g t c =
    node_part c.args.tree.now c.child.result.now c.in-Some.root.now _ _ _ c.in-Some.ensures.root c.child.ensures c.in_ok-put_on.ensures.whole
    (part_step _ _ _ _ _ c.in_ok-put_tree.ensures.whole (part_more _ _ _ _ c.put_others.ensures.part))

pub put_tree-returns-clause-part : goal.put_tree-returns-clause-part
put_tree-returns-clause-part g t c =
    node_part c.args.tree.now c.child.result.now c.in-Some.root.now _ _ _ c.in-Some.ensures.root c.child.ensures c.in_ok-put_on.ensures.whole
    (part_step _ _ _ _ _ c.in_ok-put_tree.ensures.whole (part_step _ _ _ _ _ c.in_ok-put_others.ensures.whole c.put-2.ensures.part))

pub put_tree-returns-clause-whole : goal.put_tree-returns-clause-whole
put_tree-returns-clause-whole g t c =
    on_ok_weaker c.put-2.result
    (λ a. node_whole c.args.tree.now c.child.result.now c.in-Some.root.now _ _ _ c.in-Some.ensures.root c.child.ensures c.in_ok-put_on.ensures.whole
    (Appends-trans _ _ _ _ _ c.in_ok-put_tree.ensures.whole (Appends-trans _ _ _ _ _ c.in_ok-put_others.ensures.whole a)))
    c.put-2.ensures.whole

pub put_others-returns-in_default-clause-whole : goal.put_others-returns-in_default-clause-whole
put_others-returns-in_default-clause-whole g t c = no_others c.args.tree.now _ c.in_default.ensures.root c.in_default.ensures.formed

pub put_others-returns-in_err-put-clause-part : goal.put_others-returns-in_err-put-clause-part
put_others-returns-in_err-put-clause-part g t c =
    others_fault c.args.tree.now c.child-block.result.now c.loop-i.i _ _ _ _ c.child-block.ensures c.loop-i.invariant.written
    (part_more _ _ (codes ",") (tree_text c.child-block.result.now) c.put.ensures.part)

pub put_others-put_tree-requires : goal.put_others-put_tree-requires
put_others-put_tree-requires g t c κs within = (omega (arith, c.decreases, block_less c.args.tree.now c.child-block.result.now (c.loop-i.i - 1) c.child-block.ensures), search rules)

pub put_others-returns-in_err-put_tree-clause-part : goal.put_others-returns-in_err-put_tree-clause-part
put_others-returns-in_err-put_tree-clause-part g t c =
    others_fault c.args.tree.now c.child-block.result.now c.loop-i.i _ _ _ _ c.child-block.ensures c.loop-i.invariant.written
    (part_step _ _ _ (codes ",") (tree_text c.child-block.result.now) c.in_ok-put.ensures.whole c.put_tree.ensures.part)

pub put_others-loop-i-preserved : goal.put_others-loop-i-preserved
put_others-loop-i-preserved g t c = record {
  written = others_turn c.args.tree.now c.child-block.result.now c.loop-i.i _ _ _ _ _ c.loop-i.auto.i c.child-block.ensures c.loop-i.invariant.written c.in_ok-put.ensures.whole c.in_ok-put_tree.ensures.whole;
  faults = omega arith;
  wants = omega arith;
}

pub put_others-returns-clause-whole : goal.put_others-returns-clause-whole
put_others-returns-clause-whole g t c =
    others_end c.args.tree.now c.in-Some.root.now c.loop-i.i _ _ _ c.in-Some.ensures.root c.in-Some.ensures.formed (omega (arith, c.loop-i-test.false)) c.loop-i.invariant.written

pub put_others-returns-clause-part : goal.put_others-returns-clause-part
put_others-returns-clause-part g t c = up_to_part _ _ _ _ c.loop-i.invariant.written
