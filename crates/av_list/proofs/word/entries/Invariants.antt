-- The vertices that are left write the rest of the word.
use Rattle.std.proofs.Common.{drop, reverse}
use Rattle.av_list.specs.Words.{word_of}
use Rattle.av_list.specs.Derivations.{Writing}
use Rattle.av_list.proofs.word.entries.Given as goal

abbrev pub invariant-loop-vertex : goal.invariant-loop-vertex
invariant-loop-vertex l = Writing l.system (reverse l.raised.items) (drop l.vertex-index l.vertices) l.out.items (word_of l.system l.vertices)
