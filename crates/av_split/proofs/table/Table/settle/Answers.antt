-- The next mark.
use Rattle.std.proofs.Common.{◌==◌, ◌∙◌, ℕ, get_or, length, refl, ap, ap₂, arith}
use Rattle.av_split.specs.declared.rows.Mark.{Mark}
use Rattle.av_split.specs.Marks.{unmarked, next_mark, relates}
use Rattle.av_split.proofs.RowWalks.{changed_next}
use Rattle.av_split.proofs.table.Table.settle.Goals as goal

pub loop-i-preserved : goal.loop-i-preserved
loop-i-preserved c =
    let n = ap length (c.as_slice-i-end.ensures ∙ c.self.view_is) in
    let next : ℕ → Mark = λ j. next_mark c.args.required (j == c.args.p) (relates c.args.required c.args.self.now c.args.p j) (get_or c.args.row.now j unmarked) in
    changed_next next c.args.row.now c.loop-i.row _ c.loop-i.i _ _ c.loop-i.invariant (let s = c.requires.size in omega (arith, c.loop-i-test.true))
    (c.next_mark-mark.ensures ∙ ap₂ (λ t m. next_mark c.args.required (c.loop-i.i == c.args.p) t m) c.relates.ensures (c.get.ensures ∙ c.loop-i.invariant.after c.loop-i.i (omega arith))) c.set.ensures refl

pub returns : goal.returns
returns c =
    let n = ap length (c.as_slice-i-end.ensures ∙ c.self.view_is) in
    record { size = c.loop-i.invariant.size; marks = λ i h. c.loop-i.invariant.before i (omega (arith, c.loop-i-test.false)) }
