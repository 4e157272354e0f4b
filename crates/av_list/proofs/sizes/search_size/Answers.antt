-- Sizes that leave no trees are passed over.
use Rattle.std.proofs.Common.{arith, true≢false, sym, ◌∙◌, drop, get_or, ◌+◌}
use Rattle.av_count.specs.Choices.{ways}
use Rattle.av_sys.specs.TreeLists.{count_at}
use Rattle.av_list.proofs.SizeSteps.{ahead_none}
use Rattle.av_list.proofs.sizes.search_size.Goals as goal

pub returns-then-leaves_lists : goal.returns-then-leaves_lists
returns-then-leaves_lists c = record {
  low = omega (arith, c.loop-below.auto.below, c.requires.one);
  high = omega arith;
  none = c.loop-below.invariant;
  some = c.leaves_lists.ensures.0 c.if-leaves_lists.true;
}

pub loop-below-preserved : goal.loop-below-preserved
loop-below-preserved c =
    ahead_none (count_at c.args.node.now.table.now.system (get_or c.args.node.now.children.now c.args.i 0))
    (ways (count_at c.args.node.now.table.now.system) (drop (c.args.i + 1) c.args.node.now.children.now))
    c.args.size c.args.least (c.loop-below.below + 1) (omega (arith, c.loop-below.auto.below, c.requires.one)) c.loop-below.invariant
    (λ h. true≢false (sym (c.leaves_lists.ensures.1 h) ∙ c.if-leaves_lists.false))
