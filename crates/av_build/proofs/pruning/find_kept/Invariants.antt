-- The equations are those found once so many were gone through, which are no more than were found.
use Rattle.std.proofs.Common.{◌≡◌, ◌≤◌, ◌-◌, length}
use Rattle.av_build.specs.Lean.{found_after}
use Rattle.av_build.proofs.pruning.find_kept.Given as goal

abbrev pub invariant-equations : goal.invariant-equations
invariant-equations l = (l.kept ≡ found_after l.system l.visited) × (l.visited ≤ length l.kept)

abbrev pub decreases-equations : goal.decreases-equations
decreases-equations l = length l.system.equations - l.visited
