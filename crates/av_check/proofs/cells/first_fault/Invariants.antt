-- No root that was gone through has a fault.
use Rattle.std.proofs.Common.{◌≡◌, drop}
use Rattle.av_build.specs.declared.limits.TheConstants.{MAX_SIZE}
use Rattle.av_check.specs.Verdicts.{first_some, root_fault}
use Rattle.av_check.specs.Outcomes.{AreOutcomes}
use Rattle.av_check.proofs.cells.first_fault.Given as goal

abbrev pub invariant-loop-root : goal.invariant-loop-root
invariant-loop-root l = record {
  left : first_some (root_fault MAX_SIZE l.fn.tested.system.now l.fn.tested.simples.now l.fn.tested.equation.now) (drop l.root-index l.root-items) ≡ first_some (root_fault MAX_SIZE l.fn.tested.system.now l.fn.tested.simples.now l.fn.tested.equation.now) l.root-items;
  known : AreOutcomes l.fn.tested.simples.now l.outcomes;
}
