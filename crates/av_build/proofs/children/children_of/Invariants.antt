-- The names of the children that are left are left, and as many names may still be found.
use Rattle.std.proofs.Common.{◌+◌, ◌≤◌, length}
use Rattle.av_build.specs.Drafts.{child_names}
use Rattle.av_build.proofs.ChildNumbers.{AreNumbered}
use Rattle.av_build.proofs.children.children_of.Given as goal

abbrev pub invariant-loop-constraint : goal.invariant-loop-constraint
invariant-loop-constraint l = record {
  numbered : AreNumbered (child_names l.fn.first l.fn.constraints) (child_names l.sign l.constraint-iterator.rest.items) l.fn.names l.names l.children;
  few : length l.names + length l.constraint-iterator.rest.items ≤ length l.fn.names + length l.fn.constraints;
}
