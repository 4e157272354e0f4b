-- The step of the children gone through.
use Rattle.std.proofs.Common.{Some, suc}
use Rattle.av_perm.specs.Inflate.{joined}
use Rattle.av_embed.specs.Embed.{fibre}
use Rattle.av_split.specs.Split.{all_of, first_open}
use Rattle.av_split.specs.Boxes.{Question, ask, word_rules}
use Rattle.av_split.specs.Gathering.{IsWholeStep}
use Rattle.av_split.proofs.advising.embedding_step.Given as goal

abbrev pub invariant-loop-child : goal.invariant-loop-child
invariant-loop-child l = IsWholeStep l.step (all_of (word_rules.known l.cell) (joined (λ i. ask i (fibre l.word l.places (suc i))) l.child)) (first_open (word_rules.known l.cell) (λ (q : Question). Some q) (joined (λ i. ask i (fibre l.word l.places (suc i))) l.child))
