-- The children have rows, whose pairs are the lists for all of them.
use Rattle.std.proofs.Common.{length, ap, arith}
use Rattle.av_count.proofs.Filled.{node_rows, node_is, last_row, more_row, last_place, more_place}
use Rattle.av_count.proofs.table.node_value.Goals as goal

pub row-first-requires : goal.row-first-requires
row-first-requires c = (node_rows c.args.layout.now c.args.size c.args.counts.now c.args.rests.now c.requires.filled c.args.link c.requires.node.0 c.requires.node.1 c.requires.node.2).first

pub row-requires : goal.row-requires
row-requires c =
    let r = node_rows c.args.layout.now c.args.size c.args.counts.now c.args.rests.now c.requires.filled c.args.link c.requires.node.0 c.requires.node.1 c.requires.node.2 in
    last_place (length c.args.counts.now) (length c.args.rests.now) c.args.link.rest c.in-Last.eq c.in-Last.is r.within

pub convolved-requires-clause-first : goal.convolved-requires-clause-first
convolved-requires-clause-first c =
    let r = node_rows c.args.layout.now c.args.size c.args.counts.now c.args.rests.now c.requires.filled c.args.link c.requires.node.0 c.requires.node.1 c.requires.node.2 in
    let e = ap length c.row-first.ensures in
    omega (arith, e, r.first_long, c.requires.size)

pub convolved-requires-clause-rest : goal.convolved-requires-clause-rest
convolved-requires-clause-rest c =
    let r = node_rows c.args.layout.now c.args.size c.args.counts.now c.args.rests.now c.requires.filled c.args.link c.requires.node.0 c.requires.node.1 c.requires.node.2 in
    let e = ap length (last_row c.args.counts.now c.args.rests.now c.args.link.rest c.in-Last.eq c.row.result.now c.in-Last.is c.row.ensures) in
    omega (arith, e, r.rest_long, c.requires.size)

pub row-requires-in-More : goal.row-requires-in-More
row-requires-in-More c =
    let r = node_rows c.args.layout.now c.args.size c.args.counts.now c.args.rests.now c.requires.filled c.args.link c.requires.node.0 c.requires.node.1 c.requires.node.2 in
    more_place (length c.args.counts.now) (length c.args.rests.now) c.args.link.rest c.in-More.i c.in-More.is r.within

pub convolved-requires-in-More-clause-first : goal.convolved-requires-in-More-clause-first
convolved-requires-in-More-clause-first c =
    let r = node_rows c.args.layout.now c.args.size c.args.counts.now c.args.rests.now c.requires.filled c.args.link c.requires.node.0 c.requires.node.1 c.requires.node.2 in
    let e = ap length c.row-first.ensures in
    omega (arith, e, r.first_long, c.requires.size)

pub convolved-requires-in-More-clause-rest : goal.convolved-requires-in-More-clause-rest
convolved-requires-in-More-clause-rest c =
    let r = node_rows c.args.layout.now c.args.size c.args.counts.now c.args.rests.now c.requires.filled c.args.link c.requires.node.0 c.requires.node.1 c.requires.node.2 in
    let e = ap length (more_row c.args.counts.now c.args.rests.now c.args.link.rest c.in-More.i c.row-in-More.result.now c.in-More.is c.row-in-More.ensures) in
    omega (arith, e, r.rest_long, c.requires.size)

pub returns-in-Last : goal.returns-in-Last
returns-in-Last c =
    node_is c.args.layout.now c.args.size c.args.counts.now c.args.rests.now c.args.link c.row-first.result.now c.row.result.now c.convolved.result c.requires.filled c.row-first.ensures
    (last_row c.args.counts.now c.args.rests.now c.args.link.rest c.in-Last.eq c.row.result.now c.in-Last.is c.row.ensures) c.convolved.ensures

pub returns-in-More : goal.returns-in-More
returns-in-More c =
    node_is c.args.layout.now c.args.size c.args.counts.now c.args.rests.now c.args.link c.row-first.result.now c.row-in-More.result.now c.convolved-in-More.result c.requires.filled c.row-first.ensures
    (more_row c.args.counts.now c.args.rests.now c.args.link.rest c.in-More.i c.row-in-More.result.now c.in-More.is c.row-in-More.ensures) c.convolved-in-More.ensures
