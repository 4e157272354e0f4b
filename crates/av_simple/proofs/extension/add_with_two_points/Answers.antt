-- One more place of the first point.
use Rattle.std.proofs.Common.{suc, length}
use Rattle.av_simple.specs.Extension.{HasTwoPointsIn}
use Rattle.av_simple.proofs.Gathering.{gathers_next}
use Rattle.av_simple.proofs.extension.add_with_two_points.Goals as goal

pub loop-first_place-preserved : goal.loop-first_place-preserved
loop-first_place-preserved c =
    gathers_next c.args.basis.now (suc (suc (length c.args.word.now))) (HasTwoPointsIn c.args.basis.now c.args.word.now) c.loop-first_place.first_place c.args.found.now.keys c.loop-first_place.found.keys
    c.add_with_two_points_at.new.found.keys c.loop-first_place.invariant c.in_ok-add_with_two_points_at.ensures
