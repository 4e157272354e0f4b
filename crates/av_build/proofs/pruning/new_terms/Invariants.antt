-- The terms are those that the ones gone through leave.
use Rattle.std.proofs.Common.{◌≡◌, map, take}
use Rattle.av_build.specs.Lean.{marked_terms, renumbered}
use Rattle.av_build.proofs.pruning.new_terms.Given as goal

abbrev pub invariant-loop-term : goal.invariant-loop-term
invariant-loop-term l = l.new ≡ map (renumbered l.kept) (marked_terms l.marks (take l.term-index l.term-items))
