-- The last child takes all that is left.
use Rattle.std.proofs.Common.{◌+◌, arith, true≢false, sym, ◌∙◌, drop, get_or}
use Rattle.av_count.specs.Choices.{ways}
use Rattle.av_sys.specs.TreeLists.{count_at}
use Rattle.av_list.proofs.SizeSteps.{ahead_none, ahead_past, last_none}
use Rattle.av_list.proofs.sizes.last_size.Goals as goal

pub returns-then-least-size : goal.returns-then-least-size
returns-then-least-size c =
    ahead_past (count_at c.args.node.now.table.now.system (get_or c.args.node.now.children.now c.args.i 0)) (ways (count_at c.args.node.now.table.now.system) (drop (c.args.i + 1) c.args.node.now.children.now)) c.args.size c.args.least c.if-least-size.true

pub returns-then-leaves_lists : goal.returns-then-leaves_lists
returns-then-leaves_lists c = record {
  low = c.if-least-size.false;
  high = omega arith;
  none = last_none (count_at c.args.node.now.table.now.system) c.args.node.now.children.now c.args.i (get_or c.args.node.now.children.now c.args.i 0) c.args.size c.args.least (omega (arith, c.requires.i)) c.if-least-size.false;
  some = c.leaves_lists.ensures.0 c.if-leaves_lists.true;
}

pub returns : goal.returns
returns c =
    ahead_none (count_at c.args.node.now.table.now.system (get_or c.args.node.now.children.now c.args.i 0)) (ways (count_at c.args.node.now.table.now.system) (drop (c.args.i + 1) c.args.node.now.children.now)) c.args.size c.args.least c.args.size c.if-least-size.false
    (last_none (count_at c.args.node.now.table.now.system) c.args.node.now.children.now c.args.i (get_or c.args.node.now.children.now c.args.i 0) c.args.size c.args.least (omega (arith, c.requires.i)) c.if-least-size.false)
    (λ h. true≢false (sym (c.leaves_lists.ensures.1 h) ∙ c.if-leaves_lists.false))
