-- The numbers that are left still join.
use Rattle.std.proofs.Common.{◌≡◌, drop}
use Rattle.av_build.specs.Lean.{with_numbers}
use Rattle.av_build.proofs.pruning.add_all.Given as goal

abbrev pub invariant-loop-child : goal.invariant-loop-child
invariant-loop-child l = with_numbers l.kept (drop l.child-index l.child-items) ≡ with_numbers l.fn.kept l.child-items
