-- The words that come from the words before the loop's were gathered.
use Rattle.std.proofs.Common.{[], ◌⊎◌, length}
use Rattle.av_simple.specs.Extension.{Before, HasPointOf, HasTwoPointsOf, Gathers}
use Rattle.av_simple.proofs.extension.extend_level.Given as goal

abbrev pub invariant-loop-shorter : goal.invariant-loop-shorter
invariant-loop-shorter l = Gathers l.basis l.n (Before l.shorter-index (HasPointOf l.one_below)) [] l.found.keys

abbrev pub invariant-loop-shortest : goal.invariant-loop-shortest
invariant-loop-shortest l =
    Gathers l.basis l.n (λ w. Before (length l.one_below) (HasPointOf l.one_below) w ⊎ Before l.shortest-index (HasTwoPointsOf l.basis l.two_below) w) [] l.found.keys
