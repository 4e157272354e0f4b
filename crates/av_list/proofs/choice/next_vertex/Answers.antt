-- The vertex of an only tree is the last; where none with the same term is next, it is the first with a later term.
use Rattle.av_list.proofs.Choosing.{next_later}
use Rattle.av_list.proofs.Placing.{single_last}
use Rattle.av_list.proofs.choice.next_vertex.Goals as goal

pub returns-then-is_single : goal.returns-then-is_single
returns-then-is_single c = single_last c.args.system.now c.args.table.now.system c.requires.formed c.requires.stands c.args.vertex c.requires.sound (c.is_single.ensures c.if-is_single.true)

pub returns-in-None : goal.returns-in-None
returns-in-None c = next_later c.args.system.now c.args.vertex c.later_term.result c.in-None.ensures c.later_term.ensures
