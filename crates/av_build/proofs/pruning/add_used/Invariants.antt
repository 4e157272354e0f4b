-- The children of the terms that are left still join.
use Rattle.std.proofs.Common.{◌≡◌, drop}
use Rattle.av_build.specs.Lean.{marked_terms, children_in, with_numbers}
use Rattle.av_build.proofs.pruning.add_used.Given as goal

abbrev pub invariant-loop-term : goal.invariant-loop-term
invariant-loop-term l = with_numbers l.kept (children_in (marked_terms l.marks (drop l.term-index l.term-items))) ≡ with_numbers l.fn.kept (children_in (marked_terms l.marks l.term-items))
