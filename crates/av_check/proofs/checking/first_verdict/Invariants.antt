-- No equation that was gone through has a fault.
use Rattle.std.proofs.Common.{◌≡◌, drop}
use Rattle.av_build.specs.declared.limits.TheConstants.{MAX_SIZE}
use Rattle.av_check.specs.Verdicts.{equation_fault, verdict_from}
use Rattle.av_check.specs.Outcomes.{AreOutcomes}
use Rattle.av_check.proofs.checking.first_verdict.Given as goal

abbrev pub invariant-loop-number : goal.invariant-loop-number
invariant-loop-number l = record {
  left : verdict_from (equation_fault MAX_SIZE l.fn.first l.fn.system l.fn.simples) l.number (drop l.number l.fn.system.equations) ≡ verdict_from (equation_fault MAX_SIZE l.fn.first l.fn.system l.fn.simples) 0 l.fn.system.equations;
  known : AreOutcomes l.fn.simples l.outcomes;
}
