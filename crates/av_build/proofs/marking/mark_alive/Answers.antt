-- No marks are sound, a round that changes something makes one more, and one that doesn't leaves those of the equations that
-- are alive.
use Rattle.std.proofs.Common.{sym, subst}
use Rattle.av_build.specs.Rounds.{IsSound}
use Rattle.av_build.proofs.AliveMarks.{none_sound}
use Rattle.av_build.proofs.MarkRounds.{round_smaller, round_unchanged}
use Rattle.av_build.proofs.marking.mark_alive.Goals as goal

pub rounds-init : goal.rounds-init
rounds-init c = subst (IsSound c.args.system.now.equations) (sym c.in_ok-marks.ensures) (none_sound c.args.system.now.equations)

pub rounds-smaller : goal.rounds-smaller
rounds-smaller c = round_smaller c.args.system.now.equations c.rounds.marks c.mark_round.new.marks c.mark_round.result c.rounds.invariant c.mark_round.ensures c.rounds-test.true

pub returns : goal.returns
returns c = round_unchanged c.args.system.now.equations c.rounds.marks c.mark_round.new.marks c.mark_round.result c.mark_round.ensures c.rounds-test.false
