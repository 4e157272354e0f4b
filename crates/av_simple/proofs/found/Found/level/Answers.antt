-- The levels begin at length 4.
use Rattle.std.proofs.Common.{ap, ◌∙◌, arith, length, get_or, ◌-◌}
use Rattle.av_simple.proofs.Levels.{length_levels, level_at}
use Rattle.av_simple.proofs.found.Found.level.Goals as goal

pub index-requires : goal.index-requires
index-requires c =
    let n = ap length c.self.invariant.levels_are in
    let high = rw (← c.self.view_is) at c.requires.high in
    omega (arith, n, length_levels, high, c.requires.low)

pub returns : goal.returns
returns c =
    let high = rw (← c.self.view_is) at c.requires.high in
    rw (← c.self.view_is)
    (c.index.ensures ∙ ap (λ ls. get_or ls (c.args.m - 4) c.index.result.now) c.self.invariant.levels_are
    ∙ level_at c.self.inside.basis _ c.args.m c.index.result.now c.requires.low high)
