-- What is left stays the same; each turn lowers the weight of the parts.
use Rattle.std.proofs.Common.{◌≡◌}
use Rattle.av_split.specs.Boxes.{demands}
use Rattle.av_split.specs.Paths.{parts_of}
use Rattle.av_split.specs.Walk.{IsWalk, left_of}
use Rattle.av_split.proofs.Weights.{weights}
use Rattle.av_split.proofs.splitting.find.Given as goal

abbrev pub invariant-loop-rest : goal.invariant-loop-rest
invariant-loop-rest l = record {
  walk : IsWalk l.root l.name.avoid l.name.require l.table l.asked l.rest;
  left : left_of (demands l.root l.name.avoid l.name.require) l.table l.fn.path ≡ left_of (demands l.root l.name.avoid l.name.require) l.table l.rest;
}

abbrev pub decreases-loop-rest : goal.decreases-loop-rest
decreases-loop-rest l = weights (demands l.root l.name.avoid l.name.require) (parts_of l.table l.rest)
