-- The lists of smaller sizes come before those of this size.
use Rattle.std.proofs.Common.{◌<◌, ◌+◌, ◌*◌, ◌-◌, length, drop, get_or, arith}
use Rattle.av_count.specs.Choices.{ways, ahead}
use Rattle.av_sys.specs.TreeLists.{count_at}
use Rattle.av_tree.proofs.PlacedPicks.{none, here_at, placed_end, placed_found, rank_below}
use Rattle.av_tree.proofs.placing.+place_of.Goals as goal

pub returns-then-i-len : goal.returns-then-i-len
returns-then-i-len t c F x ps hf hq lt fits alike =
    placed_end c.args.table.now.system c.args.children.now c.args.i c.args.size F x ps c.args.q (omega (arith, c.if-i-len.true, c.len-len.ensures)) fits hq lt

pub get-number-requires-clause-size : goal.get-number-requires-clause-size
get-number-requires-clause-size t c =
    let h = here_at c.args.children.now c.args.picks.now (omega arith) (omega arith) c.equation.ensures c.requires.fits in
    omega (arith, h.most, c.requires.most)

pub smaller-before-requires-clause-own : goal.smaller-before-requires-clause-own
smaller-before-requires-clause-own t c =
    let h = here_at c.args.children.now c.args.picks.now (omega arith) (omega arith) c.equation.ensures c.requires.fits in
    omega (arith, h.most)

pub smaller-before-requires-clause-least : goal.smaller-before-requires-clause-least
smaller-before-requires-clause-least t c =
    let h = here_at c.args.children.now c.args.picks.now (omega arith) (omega arith) c.equation.ensures c.requires.fits in
    h.least

pub place_of-within-requires : goal.place_of-within-requires
place_of-within-requires t c =
    let less : c.args.i < length c.args.children.now = omega arith in
    let h = here_at c.args.children.now c.args.picks.now less (omega arith) c.equation.ensures c.requires.fits in
    (omega (arith, c.decreases, less), (c.requires.eq, (c.requires.t, (c.requires.node, (c.requires.known, (c.requires.few, (omega (arith, less), (omega (arith, c.requires.most), (h.later, h.rest, h.alike)))))))))

pub returns : goal.returns
returns t c F x ps hf hq lt fits alike =
    let S = c.args.table.now.system in
    let cs = c.args.children.now in
    let i = c.args.i in
    let f = get_or c.args.picks.now i none in
    let less : i < length cs = omega arith in
    let h = here_at cs c.args.picks.now less (omega arith) c.equation.ensures (ps, fits, alike) in
    let T = count_at S c.equation.result f.size in
    let q = c.plus.ensures (x * T) h.own (c.times-2.ensures x T hq c.get-number.ensures) h.counted in
    let w = c.place_of-within.ensures (F * T) (x * T + h.own) h.later (c.times.ensures F T hf c.get-number.ensures) q (rank_below F T x h.own lt h.below) h.rest h.alike in
    placed_found S cs i c.equation.result c.args.size F x f (drop (i + 1) c.args.picks.now) ps c.place_of-within.result c.plus-2.result less c.equation.ensures h w
    (c.plus-2.ensures (F * ahead (count_at S (get_or cs i 0)) (ways (count_at S) (drop (i + 1) cs)) c.args.size 1 (f.size - 1)) w.place (c.smaller-before.ensures F hf) w.is)
