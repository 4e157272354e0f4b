-- One factor more.
use Rattle.std.proofs.Common.{◌≡◌, ◌*◌, ◌+◌, [], ◌∷◌, ℕ, take, get_or, sym, ap, arith, ◌∙◌}
use Rattle.std.proofs.lemmas.List.{take_more}
use Rattle.av_count.specs.Counts.{capped}
use Rattle.av_sys.specs.TreeLists.{count_at}
use Rattle.av_list.specs.declared.vertex.Due.{Due}
use Rattle.av_list.specs.Remaining.{completion_count}
use Rattle.av_list.proofs.Shapes.{number_append}
use Rattle.av_list.proofs.Rooms.{due_at}
use Rattle.av_list.proofs.walk.number.Goals as goal

-- any due
abbrev none : Due
none = record { equation = 0; size = 0 }

pub get-requires-clause-eq : goal.get-requires-clause-eq
get-requires-clause-eq c = (due_at c.args.table.now.system c.args.table.now.largest c.args.dues.now c.loop-due.due-index none c.requires c.loop-due-test.true).equation

pub get-requires-clause-size : goal.get-requires-clause-size
get-requires-clause-size c = (due_at c.args.table.now.system c.args.table.now.largest c.args.dues.now c.loop-due.due-index none c.requires c.loop-due-test.true).most

pub loop-due-preserved : goal.loop-due-preserved
loop-due-preserved c =
    let S = c.args.table.now.system in
    let ds = c.args.dues.now in
    let d = get_or ds c.loop-due.due-index none in
    let x = completion_count S (take c.loop-due.due-index ds) in
    let y = count_at S d.equation d.size in
    let m : x * y ≡ completion_count S (take (c.loop-due.due-index + 1) ds) =
    once x y ∙ sym (ap (completion_count S) (take_more ds c.loop-due.due-index none c.loop-due-test.true) ∙ number_append S (take c.loop-due.due-index ds) (d ∷ [])) in
    c.times-product.ensures x y c.loop-due.invariant c.get.ensures ∙ ap capped m
  where
    once : (x y : ℕ) → x * y ≡ x * (y * 1)
    once x y = omega arith
