-- An entry is counted exactly where it is greater than the greatest before it.
use Rattle.std.proofs.Common.{◌+◌, ◌∙◌, arith, ap, sym, subst}
use Rattle.av_perm.proofs.PermWords.{perm_word, perm_short}
use Rattle.av_perm.proofs.StatCounts.{IsGreatest, maxima_few, greater_entry, smaller_entry}
use Rattle.av_perm.proofs.statistics.count_left_to_right_maxima.Goals.{then-entry-greatest, else-entry-greatest}
use Rattle.av_perm.proofs.statistics.count_left_to_right_maxima.Goals as goal

pub overflow_add-count : goal.overflow_add-count
overflow_add-count c = omega (arith, c.loop-entry.invariant.counted, maxima_few c.args.entries.now c.loop-entry.entry-index, perm_short c.args.entries.now c.requires, c.loop-entry-test.true)

pub loop-entry-preserved : goal.loop-entry-preserved
loop-entry-preserved c =
    let k = c.loop-entry.invariant.greatest in
    let some = ((perm_word c.args.entries.now c.requires).numbers.within c.loop-entry.entry-index c.loop-entry-test.true).0 in
    elim c.if-entry-greatest.branch [
      | then-entry-greatest w ↦
          let p = greater_entry c.args.entries.now c.loop-entry.entry-index c.loop-entry.greatest k w.if-entry-greatest.true in
          record { counted = w.count-is ∙ ap (λ n. n + 1) c.loop-entry.invariant.counted ∙ sym p.1; greatest = subst (IsGreatest c.args.entries.now (c.loop-entry.entry-index + 1)) (sym w.greatest-is) p.0 }
      | else-entry-greatest w ↦
          let p = smaller_entry c.args.entries.now c.loop-entry.entry-index c.loop-entry.greatest k some w.if-entry-greatest.false in
          record { counted = w.count-is ∙ c.loop-entry.invariant.counted ∙ sym p.1; greatest = subst (IsGreatest c.args.entries.now (c.loop-entry.entry-index + 1)) (sym w.greatest-is) p.0 }
    ]

pub returns-clause-few : goal.returns-clause-few
returns-clause-few c = omega (arith, c.loop-entry.invariant.counted, maxima_few c.args.entries.now c.loop-entry.entry-index, perm_short c.args.entries.now c.requires, c.loop-entry.auto.entry-index-end)
