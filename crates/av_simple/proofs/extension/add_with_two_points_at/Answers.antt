-- One more entry of the first point, where the word that it leaves is gone through or not.
use Rattle.std.proofs.Common.{sym, ◌∙◌, arith}
use Rattle.std.proofs.lemmas.Bool.{both_ways}
use Rattle.av_perm.specs.Simple.{is_simple}
use Rattle.av_perm.specs.Class.{avoids_all}
use Rattle.av_perm.proofs.PermWords.{perm_word}
use Rattle.av_simple.proofs.Gathering.{two_points_turn, two_points_skip}
use Rattle.av_simple.proofs.extension.add_with_two_points_at.Goals as goal
use Rattle.av_simple.proofs.extension.add_with_two_points_at.Goals.{then-not-is_simple+then-avoids_all+in_ok-add_with_point, else-not-is_simple, else-not-is_simple-via-then-not-is_simple+else-avoids_all, else-not-is_simple-via-else-not-is_simple}

pub loop-first_entry-preserved : goal.loop-first_entry-preserved
loop-first_entry-preserved c = elim c.if-not-is_simple.branch [
  | then-not-is_simple+then-avoids_all+in_ok-add_with_point w ↦ rw w.found-is
      (two_points_turn c.args.basis.now c.args.word.now c.insert_point-longer.result c.args.first_place c.loop-first_entry.first_entry c.args.found.now.keys c.loop-first_entry.found.keys _
      (perm_word c.args.word.now c.len-len.ensures.word).numbers c.requires.within c.loop-first_entry.auto.first_entry (omega arith) c.insert_point-longer.ensures c.loop-first_entry.invariant w.in_ok-add_with_point.ensures)
  | else-not-is_simple w ↦ rw w.found-is
      (two_points_skip c.args.basis.now c.args.word.now c.insert_point-longer.result c.args.first_place c.loop-first_entry.first_entry c.args.found.now.keys c.loop-first_entry.found.keys c.insert_point-longer.ensures
      (λ u. elim w.else-not-is_simple.branch [
        | else-not-is_simple-via-then-not-is_simple+else-avoids_all q ↦ both_ways (avoids_all c.args.basis.now c.insert_point-longer.result) (sym q.avoids_all.ensures ∙ q.if-avoids_all.false) u.member
        | else-not-is_simple-via-else-not-is_simple q ↦ both_ways (is_simple c.insert_point-longer.result) u.unsimple (sym c.is_simple.ensures ∙ q.if-not-is_simple.false)
      ])
      c.loop-first_entry.invariant)
]
