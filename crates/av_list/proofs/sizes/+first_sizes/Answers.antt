-- The size of child i, then those of the children after it.
use Rattle.std.proofs.Common.{◌<◌, ◌+◌, ◌*◌, ◌-◌, [], ◌∷◌, length, drop, subst, ap, arith, length-append}
use Rattle.av_count.specs.Choices.{ways}
use Rattle.av_sys.specs.TreeLists.{count_at}
use Rattle.av_count.proofs.Filled.{child_is}
use Rattle.av_list.proofs.SizeSteps.{first_at, none_at}
use Rattle.av_list.proofs.sizes.+first_sizes.Goals as goal

pub returns-then-i-len : goal.returns-then-i-len
returns-then-i-len t c F h lt =
    none_at (count_at c.args.node.now.table.now.system) c.args.node.now.children.now c.args.i c.args.size F c.args.r c.args.sizes.now (omega (arith, c.if-i-len.true, c.len-len.ensures)) lt

pub first_sizes-requires : goal.first_sizes-requires
first_sizes-requires t c =
    let S = c.args.node.now.table.now.system in
    let w = c.requires.within in
    let s = c.first_size-cut.ensures w.0 w.1 w.2 in
    let e = child_is c.args.node.now.children.now c.args.i c.equation.result c.equation.ensures in
    let less : c.args.i < length c.args.node.now.children.now = omega (arith, c.if-i-len.false, c.len-len.ensures, c.requires.i) in
    let l = subst (λ z. c.first_size-cut.result.left < w.0 * count_at c.args.node.now.table.now.system z c.first_size-cut.result.at * ways (count_at c.args.node.now.table.now.system) (drop (c.args.i + 1) c.args.node.now.children.now) (c.args.size - c.first_size-cut.result.at)) e s.within in (
      omega (arith, c.decreases, less),
      (
        omega (arith, less),
        (
          omega (arith, c.requires.most),
          (
            omega (arith, ap length c.push.ensures, length-append c.args.sizes.now (c.first_size-cut.result.at ∷ []), c.requires.placed),
            (w.0 * count_at S c.equation.result c.first_size-cut.result.at, c.times.ensures w.0 (count_at S c.equation.result c.first_size-cut.result.at) w.1 c.get-number.ensures, l),
          ),
        ),
      ),
    )

pub returns : goal.returns
returns t c F h lt =
    let S = c.args.node.now.table.now.system in
    let cs = c.args.node.now.children.now in
    let T = count_at S c.equation.result c.first_size-cut.result.at in
    let s = c.first_size-cut.ensures F h lt in
    let e = child_is cs c.args.i c.equation.result c.equation.ensures in
    let l = subst (λ z. c.first_size-cut.result.left < F * count_at c.args.node.now.table.now.system z c.first_size-cut.result.at * ways (count_at c.args.node.now.table.now.system) (drop (c.args.i + 1) c.args.node.now.children.now) (c.args.size - c.first_size-cut.result.at)) e s.within in
    let less : c.args.i < length cs = omega (arith, c.if-i-len.false, c.len-len.ensures, c.requires.i) in
    let r = c.first_sizes.ensures (F * T) (c.times.ensures F T h c.get-number.ensures) l in
    first_at (count_at S) cs c.args.i c.equation.result c.args.size F c.args.r c.first_size-cut.result.left c.first_size-cut.result.at c.first_sizes.result
    c.args.sizes.now c.push.new.self c.first_sizes.new.sizes r.0 less e s.least s.most s.place c.push.ensures r.1 r.2
