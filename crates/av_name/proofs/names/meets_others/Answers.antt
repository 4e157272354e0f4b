-- The tests in another order.
use Rattle.std.proofs.Common.{sym, ◌∙◌}
use Rattle.av_perm.specs.Class.{contains_all}
use Rattle.av_sys.specs.Names.{meets_sign}
use Rattle.av_name.proofs.TurnedTests.{decides, fails}
use Rattle.av_name.proofs.names.meets_others.Goals as goal

pub returns-then-meets_sign : goal.returns-then-meets_sign
returns-then-meets_sign c =
    decides (meets_sign c.args.name.now.sign c.args.word.now) (contains_all c.args.name.now.require c.args.word.now) c.contains_all.result c.contains_all.ensures (sym c.meets_sign.ensures ∙ c.if-meets_sign.true)

pub returns-else-meets_sign : goal.returns-else-meets_sign
returns-else-meets_sign c =
    fails (meets_sign c.args.name.now.sign c.args.word.now) (contains_all c.args.name.now.require c.args.word.now) c.meets_sign.result c.if-meets_sign.false (sym c.meets_sign.ensures ∙ c.if-meets_sign.false)
