-- The children of a marked term join in its turn, and a term that isn't marked passes.
use Rattle.std.proofs.Common.{◌∙◌, ◌+◌, List, ℕ, drop, ap, sym, arith}
use Rattle.av_build.specs.Lean.{marked_terms, children_in, with_numbers}
use Rattle.av_build.proofs.PruneSteps.{used_join, used_pass}
use Rattle.av_build.proofs.pruning.add_used.Goals as goal
use Rattle.av_build.proofs.pruning.add_used.Goals.{then-has_marked+in_ok-add_children, else-has_marked}

pub loop-term-preserved : goal.loop-term-preserved
loop-term-preserved c =
    elim c.if-has_marked.branch [
      | then-has_marked+in_ok-add_children w ↦
          ap (λ (l : List ℕ). with_numbers l (children_in (marked_terms c.args.marks.now (drop (c.loop-term.term-index + 1) c.as_slice-term-items.result.now)))) w.kept-is
          ∙ used_join c.args.marks.now c.as_slice-term-items.result.now c.loop-term.term-index c.term-item.result c.loop-term.kept w.add_children.new.kept (omega arith) c.term-item.is
          (sym w.if-has_marked.ensures) w.in_ok-add_children.ensures
          ∙ c.loop-term.invariant
      | else-has_marked w ↦
          ap (λ (l : List ℕ). with_numbers l (children_in (marked_terms c.args.marks.now (drop (c.loop-term.term-index + 1) c.as_slice-term-items.result.now)))) w.kept-is
          ∙ used_pass c.args.marks.now c.as_slice-term-items.result.now c.loop-term.term-index c.term-item.result c.loop-term.kept (omega arith) c.term-item.is (sym w.if-has_marked.ensures)
          ∙ c.loop-term.invariant
    ]
