-- A gap is below the limit.
use Rattle.std.proofs.Common.{arith, sym, ◌∙◌}
use Rattle.av_simple.proofs.Gaps.{found_gap}
use Rattle.av_simple.proofs.found.Found.last.Goals as goal

pub overflow_add-result : goal.overflow_add-result
overflow_add-result c =
    let g = found_gap c.self.inside.basis c.self.inside.limit c.in-Gap.gap (omega (arith, c.self.invariant.low)) (sym c.in-Gap.is ∙ c.self.invariant.found_is) in
    omega (arith, g.high, c.self.invariant.high)

pub returns-in-Gap-clause-low : goal.returns-in-Gap-clause-low
returns-in-Gap-clause-low c =
    let g = found_gap c.self.inside.basis c.self.inside.limit c.in-Gap.gap (omega (arith, c.self.invariant.low)) (sym c.in-Gap.is ∙ c.self.invariant.found_is) in
    omega (arith, g.low)

pub returns-in-Gap-clause-high : goal.returns-in-Gap-clause-high
returns-in-Gap-clause-high c =
    let g = found_gap c.self.inside.basis c.self.inside.limit c.in-Gap.gap (omega (arith, c.self.invariant.low)) (sym c.in-Gap.is ∙ c.self.invariant.found_is) in
    omega (arith, g.high, c.self.invariant.high)
