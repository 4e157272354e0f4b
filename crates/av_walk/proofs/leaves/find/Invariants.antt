-- What is left stays the same; each turn lowers the weight of the parts.
use Rattle.std.proofs.Common.{◌≡◌}
use Rattle.av_split.specs.Boxes.{demands}
use Rattle.av_split.specs.Paths.{parts_of}
use Rattle.av_walk.specs.Paths.{asked_of, left_of}
use Rattle.av_walk.specs.Ends.{IsPlanned}
use Rattle.av_walk.proofs.Turning.{weights}
use Rattle.av_walk.proofs.leaves.find.Given as goal

abbrev pub invariant-loop-rest : goal.invariant-loop-rest
invariant-loop-rest l = record {
  walk : IsPlanned l.system l.root l.equation l.plan l.rest;
  left : left_of (demands l.root l.equation.name.avoid l.equation.name.require) (asked_of l.system l.root l.equation) l.plan.table l.fn.path ≡ left_of (demands l.root l.equation.name.avoid l.equation.name.require) (asked_of l.system l.root l.equation) l.plan.table l.rest;
}

abbrev pub decreases-loop-rest : goal.decreases-loop-rest
decreases-loop-rest l = weights (demands l.root l.equation.name.avoid l.equation.name.require) (asked_of l.system l.root l.equation) (parts_of l.plan.table l.rest)
