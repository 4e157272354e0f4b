-- The next demand.
use Rattle.std.proofs.Common.{◌+◌, ◌∷◌, [], map, drop, refl, sym, ap, ◌∙◌, subst, arith}
use Rattle.std.proofs.lemmas.List.{drop_all}
use Rattle.av_split.proofs.Walks.{rest_at}
use Rattle.av_split.specs.Boxes.{demand}
use Rattle.av_split.specs.Gathering.{question_asked}
use Rattle.av_split.specs.Gathering.{Gathers, IsBroken}
use Rattle.av_split.proofs.AdviceWalks.{gather_passed, gather_broken, gather_kept}
use Rattle.av_split.proofs.advising.gather.Goals.{in-Holds, in-Asks}
use Rattle.av_split.proofs.advising.gather.Goals as goal

pub returns-in-Fails : goal.returns-in-Fails
returns-in-Fails c =
    let D = demand c.args.root.now c.args.required in
    let e = rest_at c.as_slice-word-items.result.now c.loop-word.word-index (c.loop-word.word-index + 1) c.word-item.result c.word-item.result (omega (arith, c.loop-word-test.true)) (sym c.word-item.is) refl in
    subst (λ ws. IsBroken c.args.cell.now (question_asked c.args.found) (map D ws)) c.as_slice-word-items.ensures
    (gather_broken c.args.cell.now (question_asked c.args.found) (question_asked c.loop-word.kept) (map D c.as_slice-word-items.result.now) (map D (drop (c.loop-word.word-index + 1) c.as_slice-word-items.result.now)) (D c.word-item.result) c.in-Fails.ensures
    (subst (λ es. Gathers c.args.cell.now (question_asked c.args.found) (map D c.as_slice-word-items.result.now) (question_asked c.loop-word.kept) es) (ap (map D) e) c.loop-word.invariant))

pub loop-word-preserved : goal.loop-word-preserved
loop-word-preserved c =
    let D = demand c.args.root.now c.args.required in
    let items = c.as_slice-word-items.result.now in
    let e = rest_at items c.loop-word.word-index (c.loop-word.word-index + 1) c.word-item.result c.word-item.result (omega (arith, c.loop-word-test.true)) (sym c.word-item.is) refl in
    let before : Gathers c.args.cell.now (question_asked c.args.found) (map D items) (question_asked c.loop-word.kept) (D c.word-item.result ∷ map D (drop (c.loop-word.word-index + 1) items)) =
    subst (λ es. Gathers c.args.cell.now (question_asked c.args.found) (map D items) (question_asked c.loop-word.kept) es) (ap (map D) e) c.loop-word.invariant in
    elim c.match-demand_step.branch [
      | in-Holds w ↦
          subst (λ f. Gathers c.args.cell.now (question_asked c.args.found) (map D items) (question_asked f) (map D (drop (c.loop-word.word-index + 1) items))) (sym w.kept-is)
          (gather_passed c.args.cell.now (question_asked c.args.found) (question_asked c.loop-word.kept) (map D items) (map D (drop (c.loop-word.word-index + 1) items)) (D c.word-item.result) w.in-Holds.ensures before)
      | in-Asks w ↦
          gather_kept c.args.cell.now (question_asked c.args.found) (question_asked c.loop-word.kept) (question_asked c.match-demand_step.kept) (map D items) (map D (drop (c.loop-word.word-index + 1) items)) (D c.word-item.result) _
          w.in-Asks.ensures.0 w.in-Asks.ensures.1 (ap question_asked w.kept-is ∙ w.or_asked-kept.ensures) before
    ]

pub returns : goal.returns
returns c =
    let D = demand c.args.root.now c.args.required in
    let items = c.as_slice-word-items.result.now in
    let e = drop_all c.loop-word.word-index items (omega (arith, c.loop-word-test.false)) in
    subst (λ ws. Gathers c.args.cell.now (question_asked c.args.found) (map D ws) (question_asked c.loop-word.kept) []) c.as_slice-word-items.ensures
    (subst (λ ws. Gathers c.args.cell.now (question_asked c.args.found) (map D items) (question_asked c.loop-word.kept) (map D ws)) e c.loop-word.invariant)
