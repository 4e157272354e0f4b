-- The two levels below stand last but one and last.
use Rattle.std.proofs.Common.{◌≡◌, ◌-◌, length, get_or, ap, ◌∙◌, arith}
use Rattle.av_simple.specs.Searched.{levels_to}
use Rattle.av_simple.proofs.Levels.{length_levels, level_at}
use Rattle.av_simple.proofs.by_length.next_level.Goals as goal

pub bounds-levels-m : goal.bounds-levels-m
bounds-levels-m c =
    let n = ap length c.requires.levels ∙ length_levels c.args.basis.now (c.args.m - 1) in
    omega (arith, n, c.if-m-lt6.false)

pub bounds-levels-m-2 : goal.bounds-levels-m-2
bounds-levels-m-2 c =
    let n = ap length c.requires.levels ∙ length_levels c.args.basis.now (c.args.m - 1) in
    omega (arith, n, c.if-m-lt6.false)

pub extend_level-requires-clause-two_below : goal.extend_level-requires-clause-two_below
extend_level-requires-clause-two_below c =
    let low = c.if-m-lt6.false in
    let i : c.args.m - 6 ≡ c.args.m - 2 - 4 = omega arith in
    c.index-levels-m.is ∙ ap (λ ls. get_or ls (c.args.m - 6) c.index-levels-m.result) c.requires.levels
    ∙ ap (λ k. get_or (levels_to c.args.basis.now (c.args.m - 1)) k c.index-levels-m.result) i
    ∙ level_at c.args.basis.now (c.args.m - 1) (c.args.m - 2) c.index-levels-m.result (omega arith) (omega arith)

pub extend_level-requires-clause-one_below : goal.extend_level-requires-clause-one_below
extend_level-requires-clause-one_below c =
    let low = c.if-m-lt6.false in
    let i : c.args.m - 5 ≡ c.args.m - 1 - 4 = omega arith in
    c.index-levels-m-2.is ∙ ap (λ ls. get_or ls (c.args.m - 5) c.index-levels-m-2.result) c.requires.levels
    ∙ ap (λ k. get_or (levels_to c.args.basis.now (c.args.m - 1)) k c.index-levels-m-2.result) i
    ∙ level_at c.args.basis.now (c.args.m - 1) (c.args.m - 1) c.index-levels-m-2.result (omega arith) (omega arith)
