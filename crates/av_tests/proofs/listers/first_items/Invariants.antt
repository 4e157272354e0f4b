-- What is gathered, and what is still to be taken, are the first items.
use Rattle.std.proofs.Common.{◌≡◌, ◌++◌, drop, take}
use Rattle.std.specs.Iterator.Adapters.{take_source, take_count}
use Rattle.av_sys.specs.TreeLists.{members}
use Rattle.av_list.specs.Items.{items_from}
use Rattle.av_tests.proofs.listers.first_items.Given as goal

abbrev pub invariant-loop-item : goal.invariant-loop-item
invariant-loop-item l = l.all.items ++ take (take_count l.item-iterator) (take_source l.item-iterator) ≡ take l.many (items_from l.from (drop l.from (members l.system l.n)))
