-- The rest that is reached has the row of the children from there on.
use Rattle.std.proofs.Common.{◌+◌, length, ◌∙◌, ap, arith}
use Rattle.av_count.specs.Tables.{cell}
use Rattle.av_count.proofs.Filled.{last_row, more_row, last_place, more_place}
use Rattle.av_count.proofs.Linked.{tail_row}
use Rattle.av_count.proofs.table.tail_value.Goals as goal

pub row-requires : goal.row-requires
row-requires c =
    let p = c.requires.node in
    let r = tail_row c.args.layout.now (c.args.size + 1) c.args.counts.now c.args.rests.now c.args.link c.args.child c.after.result c.requires.filled (omega (arith, c.requires.least, c.if-child-eq1.false)) c.after.ensures p.0 p.1 p.2 p.3 in
    last_place (length c.args.counts.now) (length c.args.rests.now) c.after.result c.in-Last.eq c.in-Last.is r.within

pub get-requires : goal.get-requires
get-requires c =
    let p = c.requires.node in
    let r = tail_row c.args.layout.now (c.args.size + 1) c.args.counts.now c.args.rests.now c.args.link c.args.child c.after.result c.requires.filled (omega (arith, c.requires.least, c.if-child-eq1.false)) c.after.ensures p.0 p.1 p.2 p.3 in
    let e = ap length (last_row c.args.counts.now c.args.rests.now c.after.result c.in-Last.eq c.row.result.now c.in-Last.is c.row.ensures) in
    omega (arith, e, r.holds.long, c.requires.size)

pub row-requires-in-More : goal.row-requires-in-More
row-requires-in-More c =
    let p = c.requires.node in
    let r = tail_row c.args.layout.now (c.args.size + 1) c.args.counts.now c.args.rests.now c.args.link c.args.child c.after.result c.requires.filled (omega (arith, c.requires.least, c.if-child-eq1.false)) c.after.ensures p.0 p.1 p.2 p.3 in
    more_place (length c.args.counts.now) (length c.args.rests.now) c.after.result c.in-More.i c.in-More.is r.within

pub get-requires-in-More : goal.get-requires-in-More
get-requires-in-More c =
    let p = c.requires.node in
    let r = tail_row c.args.layout.now (c.args.size + 1) c.args.counts.now c.args.rests.now c.args.link c.args.child c.after.result c.requires.filled (omega (arith, c.requires.least, c.if-child-eq1.false)) c.after.ensures p.0 p.1 p.2 p.3 in
    let e = ap length (more_row c.args.counts.now c.args.rests.now c.after.result c.in-More.i c.row-in-More.result.now c.in-More.is c.row-in-More.ensures) in
    omega (arith, e, r.holds.long, c.requires.size)

pub returns-in-Last : goal.returns-in-Last
returns-in-Last c cs n d le =
    let r = tail_row c.args.layout.now (c.args.size + 1) c.args.counts.now c.args.rests.now c.args.link c.args.child c.after.result c.requires.filled (omega (arith, c.requires.least, c.if-child-eq1.false)) c.after.ensures cs n d le in
    c.get.ensures
    ∙ ap (λ row. cell row c.args.size) (last_row c.args.counts.now c.args.rests.now c.after.result c.in-Last.eq c.row.result.now c.in-Last.is c.row.ensures)
    ∙ r.holds.cells c.args.size (omega arith)

pub returns-in-More : goal.returns-in-More
returns-in-More c cs n d le =
    let r = tail_row c.args.layout.now (c.args.size + 1) c.args.counts.now c.args.rests.now c.args.link c.args.child c.after.result c.requires.filled (omega (arith, c.requires.least, c.if-child-eq1.false)) c.after.ensures cs n d le in
    c.get-in-More.ensures
    ∙ ap (λ row. cell row c.args.size) (more_row c.args.counts.now c.args.rests.now c.after.result c.in-More.i c.row-in-More.result.now c.in-More.is c.row-in-More.ensures)
    ∙ r.holds.cells c.args.size (omega arith)
