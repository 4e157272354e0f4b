-- The path leads to the box in which nothing is avoided or required.
use Rattle.std.proofs.Common.{length, sym, subst}
use Rattle.av_perm.proofs.PermWords.{perms_words}
use Rattle.av_split.specs.Boxes.{demands}
use Rattle.av_split.specs.Cells.{AreDemandsOf}
use Rattle.av_split.proofs.Cutting.{starts}
use Rattle.av_split.proofs.splitting.Boxes.new.Goals as goal

pub invariant_of-result : goal.invariant_of-result
invariant_of-result c =
    (starts c.args.root.now c.args.name.now.avoid c.args.name.now.require c.in_ok-table.table c.in_ok-asked.asked (record { rows = c.in_ok-free.field-0; turns = c.new.result }) c.len.result (perms_words c.args.name.now.avoid c.len-avoid.ensures.words) (perms_words c.args.name.now.require c.len-require.ensures.words)
    (subst (λ ps. AreDemandsOf (length c.args.root.now) ps c.in_ok-asked.asked (demands c.args.root.now c.args.name.now.avoid c.args.name.now.require)) (sym c.in_ok-table.ensures) c.in_ok-asked.ensures)
    c.len.ensures.value c.in_ok-free.ensures c.new.ensures.items).0

pub returns : goal.returns
returns c =
    (starts c.args.root.now c.args.name.now.avoid c.args.name.now.require c.in_ok-table.table c.in_ok-asked.asked (record { rows = c.in_ok-free.field-0; turns = c.new.result }) c.len.result (perms_words c.args.name.now.avoid c.len-avoid.ensures.words) (perms_words c.args.name.now.require c.len-require.ensures.words)
    (subst (λ ps. AreDemandsOf (length c.args.root.now) ps c.in_ok-asked.asked (demands c.args.root.now c.args.name.now.avoid c.args.name.now.require)) (sym c.in_ok-table.ensures) c.in_ok-asked.ensures)
    c.len.ensures.value c.in_ok-free.ensures c.new.ensures.items).1
