-- The word, and the words of the list gone through.
use Rattle.std.proofs.Common.{◌≡◌, ◌∷◌, take}
use Rattle.av_name.proofs.constraints.with_word_first.Given as goal

abbrev pub invariant-loop-other : goal.invariant-loop-other
invariant-loop-other l = l.all ≡ l.word ∷ take l.other-index l.words
