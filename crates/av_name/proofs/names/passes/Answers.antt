-- The tests in another order.
use Rattle.std.proofs.Common.{sym, ◌∙◌}
use Rattle.av_name.proofs.TurnedTests.{decides, fails}
use Rattle.av_name.proofs.names.passes.Goals as goal

pub returns-then-meets_others : goal.returns-then-meets_others
returns-then-meets_others c = decides _ _ _ c.avoids_all.ensures (sym c.meets_others.ensures ∙ c.if-meets_others.true)

pub returns-else-meets_others : goal.returns-else-meets_others
returns-else-meets_others c = fails _ _ _ c.if-meets_others.false (sym c.meets_others.ensures ∙ c.if-meets_others.false)
