-- No name that was gone through is dead, and the flaw is what those left leave it.
use Rattle.av_build.specs.Drafts.{child_names}
use Rattle.av_check.specs.Outcomes.{AreOutcomes}
use Rattle.av_check.proofs.NameLoops.{IsGoing}
use Rattle.av_check.proofs.outcomes.Outcomes.bare_flaw.Given as goal

abbrev pub invariant-loop-constraint : goal.invariant-loop-constraint
invariant-loop-constraint l = record {
  going : IsGoing l.fn.basis l.fn.simples (child_names l.fn.first l.fn.cell) l.sign l.flaw l.constraint-iterator.rest.items;
  known : AreOutcomes l.fn.simples l.self;
}
