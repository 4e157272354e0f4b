-- What was found of the terms tells what becomes of the box.
use Rattle.av_split.specs.Cells.{known_at}
use Rattle.av_walk.specs.Walk.{inside_count}
use Rattle.av_walk.specs.Sifts.{picked}
use Rattle.av_walk.proofs.SettledLooks.{looks_at}
use Rattle.av_walk.proofs.looking.settled_look.Goals as goal

pub returns : goal.returns
returns c = λ ds k a.
    looks_at c.args.done (known_at c.args.rows.now) ds c.args.terms.now c.args.live.now c.in_ok-sift.field-0 c.settled_by.result k a c.in_ok-sift.ensures
    (c.settled_by.ensures (inside_count (known_at c.args.rows.now) (picked c.args.terms.now c.args.live.now)) c.in_ok-sift.ensures.inside)
