-- One more item is taken, until as many are taken or none is left.
use Rattle.std.proofs.Common.{List, ℕ, take}
use Rattle.std.specs.Iterator.Adapters.{take_source, take_count}
use Rattle.av_tests.proofs.Taken.{taken_more, taken_all}
use Rattle.av_tests.proofs.listers.first_items.Goals as goal

pub loop-item-preserved : goal.loop-item-preserved
loop-item-preserved c =
    let grew = rw c.if-is_err.ensures.negation at c.push.ensures.items in
    let more = taken_more c.loop-item.all.items (take_source c.loop-item.item-iterator) (take_source c.next.new.self) _ c.in-Some.item (take_count c.loop-item.item-iterator) (take_count c.next.new.self) c.loop-item.invariant c.in-Some.ensures.steps.0 c.in-Some.ensures.steps.1 in
    rw grew more

pub returns : goal.returns
returns c = taken_all c.loop-item.all.items (take_source c.loop-item.item-iterator) _ (take_count c.loop-item.item-iterator) c.loop-item.invariant (λ h. (c.in-None.ensures.steps h).0)
