-- The number of ways to do what is due, which is not 0.
use Rattle.std.proofs.Common.{◌≡◌, ap, subst, sym, ◌∙◌, inr, refl}
use Rattle.av_count.specs.Counts.{capped}
use Rattle.av_list.specs.Remaining.{completion_count}
use Rattle.av_list.specs.Derivations.{EachDue}
use Rattle.av_list.proofs.Rooms.{due_reverse, number_reverse, each_some}
use Rattle.av_list.proofs.walk.factor_after.Goals as goal

pub number-requires : goal.number-requires
number-requires c =
    subst (EachDue c.args.table.now.system c.args.table.now.largest) (sym c.dues.ensures) (due_reverse c.args.table.now.system c.args.table.now.largest c.args.derivation.now.due c.requires)

pub returns : goal.returns
returns c =
    let S = c.args.table.now.system in
    let e : completion_count S c.dues.result.now ≡ completion_count S c.args.derivation.now.due = ap (completion_count S) c.dues.ensures ∙ number_reverse S c.args.derivation.now.due in
    record {
      times = completion_count S c.args.derivation.now.due;
      is = c.number.ensures ∙ ap capped e;
      some = each_some S c.args.table.now.largest c.args.derivation.now.due c.requires;
      exact = inr refl;
    }
