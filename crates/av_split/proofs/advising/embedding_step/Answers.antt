-- The step of one more child.
use Rattle.std.proofs.Common.{suc}
use Rattle.av_embed.specs.Embed.{fibre}
use Rattle.av_split.specs.Boxes.{ask, word_rules}
use Rattle.av_split.proofs.AdviceSteps.{questions_next}
use Rattle.av_split.proofs.advising.embedding_step.Goals as goal

pub loop-child-preserved : goal.loop-child-preserved
loop-child-preserved c =
    questions_next c.both_steps-step.result (word_rules.known c.args.cell.now) (λ i. ask i (fibre c.args.word.now c.args.places.now (suc i))) c.loop-child.child
    (c.both_steps-step.ensures _ _ _ _ c.loop-child.invariant c.child_step.ensures)
