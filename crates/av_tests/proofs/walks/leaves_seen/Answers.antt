-- The terms of a system that passes its test are terms of it.
use Rattle.av_tests.proofs.walks.leaves_seen.Goals as goal
use Rattle.av_perm.proofs.ListLaws.{get_In}

pub new-requires-clause-terms : goal.new-requires-clause-terms
new-requires-clause-terms c t j = (c.check.ensures.meaning.0 c.if-not-check.false).terms c.get-equation.result.now t (get_In c.args.system.now.equations c.args.i c.get-equation.result.now c.get-equation.ensures) j
