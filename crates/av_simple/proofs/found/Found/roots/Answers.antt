-- The words of all levels, of which the last two are empty.
use Rattle.std.proofs.Common.{◌≤◌, length, arith, ap, ◌∙◌, take}
use Rattle.av_simple.proofs.Levels.{all_of}
use Rattle.av_simple.proofs.Searches.{roots_found}
use Rattle.av_simple.proofs.found.Found.roots.Goals as goal

pub returns : goal.returns
returns c =
    let settled = rw (← c.self.view_is) at c.requires in
    let items = c.deref-level-items.ensures.value in
    let end : length c.self.inside.levels.items ≤ c.loop-level.level-index = omega (arith, c.loop-level-test.false, ap length items) in
    rw (← c.self.view_is)
    (roots_found _ c.self.inside.levels.items c.self.inside.outcome c.loop-level.level-index c.loop-level.roots c.self.invariant settled end
    (c.loop-level.invariant ∙ ap (λ ls. all_of (take c.loop-level.level-index ls)) items))
