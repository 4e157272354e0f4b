-- A pattern that is among those known is not contained.
use Rattle.std.proofs.Common.{arith, sym, ◌∙◌}
use Rattle.av_match.proofs.Missed.{missed_more, all_missed}
use Rattle.av_name.proofs.AvoidedWords.{among_known, one_contained}
use Rattle.av_name.proofs.names.avoids_others.Goals as goal
use Rattle.av_name.proofs.names.avoids_others.Goals.{else-not-is_among-via-then-not-is_among+else-contains, else-not-is_among-via-else-not-is_among}

pub loop-i-preserved : goal.loop-i-preserved
loop-i-preserved c =
    missed_more c.args.word.now c.args.patterns.now c.loop-i.i c.get-pattern.result.now c.loop-i.invariant c.get-pattern.ensures
    (elim c.else-not-is_among.branch [
      | else-not-is_among-via-then-not-is_among+else-contains w ↦ sym w.contains.ensures ∙ w.if-contains.false
      | else-not-is_among-via-else-not-is_among w ↦
          among_known c.args.word.now c.args.known.now c.get-pattern.result.now c.requires (sym c.is_among.ensures ∙ w.if-not-is_among.false)
    ])

pub returns-then-contains : goal.returns-then-contains
returns-then-contains c =
    sym (one_contained c.args.word.now c.args.patterns.now c.loop-i.i c.get-pattern.result.now c.get-pattern.ensures (sym c.contains.ensures ∙ c.if-contains.true))

pub returns : goal.returns
returns c = sym (all_missed c.args.word.now c.args.patterns.now (λ k other h. c.loop-i.invariant k other (omega arith)))
