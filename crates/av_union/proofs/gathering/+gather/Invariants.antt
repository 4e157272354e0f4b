-- Each entry laid over leaves one less to lay over. What was kept stays, and holds what the choices gone through add.
use Rattle.std.proofs.Common.{◌≡◌, suc, ◌-◌, ◌*◌, ◌++◌, length}
use Rattle.av_union.specs.declared.limits.TheConstants.{MAX_OVERLAY_LENGTH}
use Rattle.av_union.specs.Choices.{choices}
use Rattle.av_union.specs.Gather.{Adds}
use Rattle.av_union.proofs.Kept.{HasGrownByEach}
use Rattle.av_union.proofs.gathering.+gather.Given as goal

abbrev pub decreases-gather : goal.decreases-gather
decreases-gather l = suc (2 * (MAX_OVERLAY_LENGTH - length l.partial.now.places.items))

abbrev pub decreases-gather_by : goal.decreases-gather_by
decreases-gather_by l = 2 * (MAX_OVERLAY_LENGTH - length l.partial.now.places.items)

abbrev pub invariant-gather-loop-choice : goal.invariant-gather-loop-choice
invariant-gather-loop-choice l = record {
  adds : Adds l.first l.second l.initial.kept.keys l.kept.keys;
  left : l.yielded ++ l.choice-iterator ≡ choices (length l.partial.word);
  whole : HasGrownByEach l.early l.first l.second l.partial.word l.partial.places.items l.yielded l.kept.keys;
}
