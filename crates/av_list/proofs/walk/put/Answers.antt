-- There is room for a vertex and for what is due below it.
use Rattle.std.proofs.Common.{length, arith, ap}
use Rattle.av_list.proofs.Rooms.{put_room}
use Rattle.av_list.proofs.walk.put.Goals as goal

pub add_dues_below-requires-clause-room : goal.add_dues_below-requires-clause-room
add_dues_below-requires-clause-room c =
    (put_room c.args.system.now c.requires.formed c.args.derivation.now.size c.requires.least c.requires.some c.args.vertex c.args.derivation.now.placed c.args.derivation.now.due c.requires.derives).0

pub push_vertex-requires : goal.push_vertex-requires
push_vertex-requires c =
    let r = put_room c.args.system.now c.requires.formed c.args.derivation.now.size c.requires.least c.requires.some c.args.vertex c.args.derivation.now.placed c.args.derivation.now.due c.requires.derives in
    omega (arith, r.1, ap length c.add_dues_below.ensures.placed, c.add_dues_below.ensures.size)
