-- There are as many marks as equations, an equation that is marked is alive, and the marks are those of a round in the end.
use Rattle.std.proofs.Common.{◌≡◌, ◌-◌, arith, true, sym, ◌∙◌, subst}
use Rattle.av_build.proofs.MarkRounds.{IsRoundFrom, sound_length, round_marks, round_ends}
use Rattle.av_build.proofs.marking.mark_round.Goals as goal

pub mark-requires : goal.mark-requires
mark-requires c = omega (arith, sound_length c.args.equations.now c.loop-i.marks c.loop-i.invariant.sound, c.len-i.ensures.value)

pub loop-i-preserved-then-has_marked_term : goal.loop-i-preserved-then-has_marked_term
loop-i-preserved-then-has_marked_term c =
    subst (λ marks. IsRoundFrom c.args.equations.now c.args.marks.now marks true (c.loop-i.i - 1)) (sym c.mark.ensures)
    (round_marks c.args.equations.now c.args.marks.now c.loop-i.marks c.loop-i.changed (c.loop-i.i - 1) c.loop-i.i c.get.result.now c.loop-i.invariant c.get.ensures
    (sym c.is_marked.ensures ∙ cc) (sym c.if-has_marked_term.ensures))

pub returns : goal.returns
returns c =
    let none_left : c.loop-i.i ≡ 0 = omega arith in
    round_ends c.args.equations.now c.args.marks.now c.loop-i.marks c.loop-i.changed
    (subst (IsRoundFrom c.args.equations.now c.args.marks.now c.loop-i.marks c.loop-i.changed) none_left c.loop-i.invariant)
