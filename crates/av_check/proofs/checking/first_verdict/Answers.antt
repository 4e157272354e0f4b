-- The next equation.
use Rattle.std.proofs.Common.{◌∙◌}
use Rattle.av_perm.proofs.ListLaws.{get_In}
use Rattle.av_build.specs.declared.limits.TheConstants.{MAX_SIZE}
use Rattle.av_check.specs.Verdicts.{equation_fault}
use Rattle.av_check.proofs.Checked.{equation_passed, equation_ends}
use Rattle.av_check.proofs.checking.first_verdict.Goals as goal

pub equation_fault-requires-clause-listed : goal.equation_fault-requires-clause-listed
equation_fault-requires-clause-listed c = get_In c.args.system.now.equations c.loop-number.number c.get-equation.result.now c.get-equation.ensures

pub returns-in-Some : goal.returns-in-Some
returns-in-Some c =
    c.verdict_of.ensures
    ∙ equation_ends (equation_fault MAX_SIZE c.args.first.now c.args.system.now c.args.simples.now) c.args.system.now.equations c.loop-number.number c.get-equation.result.now c.get-equation.ensures
    c.in_ok-fault.fault c.in-Some.fault c.in_ok-fault.ensures.fault c.in-Some.is c.loop-number.invariant.left

pub loop-number-preserved : goal.loop-number-preserved
loop-number-preserved c = record {
  left = equation_passed (equation_fault MAX_SIZE c.args.first.now c.args.system.now c.args.simples.now) c.args.system.now.equations c.loop-number.number c.get-equation.result.now c.get-equation.ensures
      c.in_ok-fault.fault c.in_ok-fault.ensures.fault c.in_default.is c.loop-number.invariant.left;
  known = c.in_ok-fault.ensures.known;
}
