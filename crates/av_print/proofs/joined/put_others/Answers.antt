-- One item more was written, or a part of it.
use Rattle.std.proofs.Common.{◌++◌, arith}
use Rattle.av_print.proofs.Written.{items_turn, items_fault}
use Rattle.av_print.proofs.joined.put_others.Goals as goal

pub returns-in_err-put_on-clause-part : goal.returns-in_err-put_on-clause-part
returns-in_err-put_on-clause-part g c =
    items_fault (λ x. c.args.separator.now ++ g.T.Text.text x) c.args.items.now c.loop-item.item-index c.item-item.result _ _ _ _
    c.loop-item-test.true c.item-item.is c.loop-item.invariant.written c.put_on.ensures.part

pub loop-item-preserved : goal.loop-item-preserved
loop-item-preserved g c = record {
  written = items_turn (λ x. c.args.separator.now ++ g.T.Text.text x) c.args.items.now c.loop-item.item-index c.item-item.result _ _ _ _
      c.loop-item-test.true c.item-item.is c.loop-item.invariant.written c.in_ok-put_on.ensures.whole;
  faults = omega arith;
  wants = omega arith;
}
