-- The size of child i, then those after it, and back the quotient and the remainder.
use Rattle.std.proofs.Common.{◌<◌, ◌+◌, ◌*◌, ◌-◌, length, drop, sym, subst, arith}
use Rattle.av_count.specs.Choices.{ways}
use Rattle.av_sys.specs.TreeLists.{count_at}
use Rattle.av_tree.specs.Picks.{Chosen}
use Rattle.av_count.proofs.Filled.{child_is}
use Rattle.av_tree.proofs.Picks.{chosen_end, chosen_at, drop_past}
use Rattle.av_tree.proofs.PlacedPicks.{positive}
use Rattle.av_tree.proofs.choosing.+choose.Goals as goal

pub returns-then-i-len : goal.returns-then-i-len
returns-then-i-len t c F h lt =
    let e = drop_past c.args.children.now c.args.i (omega (arith, c.if-i-len.true, c.len-len.ensures)) in
    let l = subst (λ z. c.args.r < F * ways (count_at c.args.table.now.system) z c.args.size) e lt in
    subst (λ z. Chosen c.args.table.now.system z c.args.size F c.args.r c.args.r (drop c.args.i c.args.picks.now)) (sym e) (chosen_end c.args.table.now.system c.args.size F c.args.r (drop c.args.i c.args.picks.now) l)

pub choose-q-requires : goal.choose-q-requires
choose-q-requires t c =
    let S = c.args.table.now.system in
    let w = c.requires.within in
    let s = c.choose_size-cut.ensures w.0 w.1 w.2 in
    let e = child_is c.args.children.now c.args.i c.equation.result c.equation.ensures in
    let less : c.args.i < length c.args.children.now = omega (arith, c.if-i-len.false, c.len-len.ensures, c.requires.i) in
    let l = subst (λ z. c.choose_size-cut.result.left < w.0 * count_at c.args.table.now.system z c.choose_size-cut.result.at * ways (count_at c.args.table.now.system) (drop (c.args.i + 1) c.args.children.now) (c.args.size - c.choose_size-cut.result.at)) e s.within in (
      omega (arith, c.decreases, less),
      (
        c.requires.eq,
        (
          c.requires.t,
          (
            c.requires.node,
            (
              c.requires.known,
              (
                c.requires.few,
                (
                  omega (arith, less),
                  (
                    omega (arith, c.requires.most),
                    (w.0 * count_at S c.equation.result c.choose_size-cut.result.at, c.times.ensures w.0 (count_at S c.equation.result c.choose_size-cut.result.at) w.1 c.get-number.ensures, l),
                  ),
                ),
              ),
            ),
          ),
        ),
      ),
    )

pub split-quotient-requires : goal.split-quotient-requires
split-quotient-requires t c =
    let S = c.args.table.now.system in
    let w = c.requires.within in
    let T = count_at S c.equation.result c.choose_size-cut.result.at in
    let s = c.choose_size-cut.ensures w.0 w.1 w.2 in
    let e = child_is c.args.children.now c.args.i c.equation.result c.equation.ensures in
    let l = subst (λ z. c.choose_size-cut.result.left < w.0 * count_at c.args.table.now.system z c.choose_size-cut.result.at * ways (count_at c.args.table.now.system) (drop (c.args.i + 1) c.args.children.now) (c.args.size - c.choose_size-cut.result.at)) e s.within in
    let h = c.choose-q.ensures (w.0 * T) (c.times.ensures w.0 T w.1 c.get-number.ensures) l in
    (T, c.get-number.ensures, positive w.0 T c.choose-q.result h.within)

pub returns : goal.returns
returns t c F h lt =
    let S = c.args.table.now.system in
    let cs = c.args.children.now in
    let T = count_at S c.equation.result c.choose_size-cut.result.at in
    let s = c.choose_size-cut.ensures F h lt in
    let e = child_is cs c.args.i c.equation.result c.equation.ensures in
    let l = subst (λ z. c.choose_size-cut.result.left < F * count_at c.args.table.now.system z c.choose_size-cut.result.at * ways (count_at c.args.table.now.system) (drop (c.args.i + 1) c.args.children.now) (c.args.size - c.choose_size-cut.result.at)) e s.within in
    let ch = c.choose-q.ensures (F * T) (c.times.ensures F T h c.get-number.ensures) l in
    let p = c.split-quotient.ensures T c.get-number.ensures in
    let less : c.args.i < length cs = omega (arith, c.if-i-len.false, c.len-len.ensures, c.requires.i) in
    chosen_at S cs c.args.i c.equation.result c.args.size F c.args.r c.choose_size-cut.result.left c.choose_size-cut.result.at c.choose-q.result c.choose-q.new.picks
    c.split-quotient.result.0 c.split-quotient.result.1 less (omega (arith, less, c.requires.few, c.choose-q.array_long)) e s ch p.0 p.1
