-- The embeddings gone through told no more than the first open question.
use Rattle.std.proofs.Common.{◌≡◌, ◌++◌, List, Some, map}
use Rattle.av_embed.specs.Embed.{embeddings}
use Rattle.av_split.specs.Split.{all_of, first_open}
use Rattle.av_split.specs.Boxes.{Question, questions, word_rules}
use Rattle.av_split.specs.Gathering.{question_asked}
use Rattle.av_split.proofs.Walks.{SomeSo}
use Rattle.av_split.proofs.advising.some_step.Given as goal

abbrev pub invariant-loop-places : goal.invariant-loop-places
invariant-loop-places l = record {
  all : l.yielded ++ l.places-iterator ≡ embeddings l.root l.word;
  so : SomeSo (all_of (word_rules.known l.cell)) (λ (m : List Question). first_open (word_rules.known l.cell) (λ (q : Question). Some q) m) (question_asked l.found)
      (map (questions l.root l.word) (embeddings l.root l.word)) (map (questions l.root l.word) l.places-iterator);
}
