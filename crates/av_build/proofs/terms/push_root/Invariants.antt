-- The terms of the boxes that are left are left, and each of these boxes has at most ten children.
use Rattle.std.proofs.Common.{◌≤◌, List, map, length}
use Rattle.av_perm.specs.declared.limits.TheConstants.{MAX_ROOT_LENGTH}
use Rattle.av_perm.specs.Members.{In}
use Rattle.av_sys.specs.declared.names.Constraint.{Constraint}
use Rattle.av_build.specs.Drafts.{root_drafts}
use Rattle.av_build.specs.Adding.{box_draft}
use Rattle.av_build.proofs.Adding.{IsAdding}
use Rattle.av_build.proofs.terms.push_root.Given as goal

abbrev pub invariant-loop-found : goal.invariant-loop-found
invariant-loop-found l = record {
  adding : IsAdding l.limit (root_drafts l.first l.name l.root) (map (box_draft l.first l.root) l.boxes) l.fn.names l.names l.fn.terms l.terms;
  sized : (b : List Constraint) → In b l.boxes → length b ≤ MAX_ROOT_LENGTH;
}

abbrev pub decreases-loop-found : goal.decreases-loop-found
decreases-loop-found l = length l.boxes
