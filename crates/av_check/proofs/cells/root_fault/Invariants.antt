-- No leaf that was gone through has a flaw.
use Rattle.std.proofs.Common.{length}
use Rattle.av_build.specs.declared.limits.TheConstants.{MAX_SIZE}
use Rattle.av_walk.specs.Leaves.{leaves_of}
use Rattle.av_check.specs.Verdicts.{leaf_flaw}
use Rattle.av_check.specs.Outcomes.{AreOutcomes}
use Rattle.av_check.specs.Ends.{IsLeft}
use Rattle.av_check.proofs.cells.root_fault.Given as goal

abbrev pub invariant-loop-end : goal.invariant-loop-end
invariant-loop-end l = record {
  left : IsLeft (leaf_flaw MAX_SIZE l.fn.tested.simples.now l.fn.root) l.fn.root (leaves_of l.fn.tested.system.now l.fn.root l.fn.tested.equation.now) l.leaves l.cell;
  known : AreOutcomes l.fn.tested.simples.now l.outcomes;
}

abbrev pub decreases-loop-end : goal.decreases-loop-end
decreases-loop-end l = length l.leaves
