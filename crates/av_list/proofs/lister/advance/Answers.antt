-- There is a tree for all that is due.
use Rattle.av_list.proofs.Rooms.{derives_each, each_some}
use Rattle.av_list.proofs.lister.advance.Goals as goal

pub complete-requires-clause-within : goal.complete-requires-clause-within
complete-requires-clause-within c =
    each_some c.args.system.now c.args.derivation.now.size c.retract-moved.new.derivation.due
    (derives_each c.args.system.now c.requires.formed c.args.derivation.now.size c.requires.least c.requires.formed.some c.requires.some c.retract-moved.new.derivation.placed c.retract-moved.new.derivation.due c.retract-moved.ensures.derives)
