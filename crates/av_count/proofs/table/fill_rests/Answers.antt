-- One more link holds the size.
use Rattle.std.proofs.Common.{◌<◌, ◌+◌, [], length, get_or, set, arith}
use Rattle.av_count.specs.Tables.{LinkHolds}
use Rattle.av_count.proofs.Filled.{link_put, rests_put, rests_done}
use Rattle.av_count.proofs.Linked.{at_link}
use Rattle.av_count.proofs.table.fill_rests.Goals as goal

pub loop-i-preserved : goal.loop-i-preserved
loop-i-preserved c =
    let g = c.args.layout.now in
    let i = c.loop-i.i in
    let s = c.args.size in
    let w = g.largest + 1 in
    let lt : i < length g.links = omega (arith, c.loop-i-test.true, c.len-i-end.ensures) in
    let all = c.loop-i.invariant.all in
    let row : LinkHolds g.of.value g.links w (s + 1) i (set (get_or c.loop-i.rests i []) s c.node_value-count.result) =
    link_put g.of.value g.links w s i (get_or c.loop-i.rests i []) c.node_value-count.result (all.rows.rows i lt) (omega (arith, c.requires.size))
    (λ cs n r. c.node_value-count.ensures cs n (at_link g.links cs i c.get.result c.get.ensures r)) in
    rw c.put.ensures (record {
      all = record { counted = all.counted; rows = rests_put g.of.value g.links w s i c.loop-i.rests _ all.rows lt row };
      done = rests_done g.of.value g.links w s i c.loop-i.rests _ all.rows lt c.loop-i.invariant.done row;
    })
