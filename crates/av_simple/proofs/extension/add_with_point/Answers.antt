-- One more place.
use Rattle.std.proofs.Common.{suc, length}
use Rattle.av_simple.specs.Extension.{HasPointIn}
use Rattle.av_simple.proofs.Gathering.{gathers_next}
use Rattle.av_simple.proofs.extension.add_with_point.Goals as goal

pub loop-place-preserved : goal.loop-place-preserved
loop-place-preserved c =
    gathers_next c.args.basis.now (suc (length c.args.word.now)) (HasPointIn c.args.word.now) c.loop-place.place c.args.found.now.keys c.loop-place.found.keys c.add_with_point_at.new.found.keys
    c.loop-place.invariant c.in_ok-add_with_point_at.ensures
