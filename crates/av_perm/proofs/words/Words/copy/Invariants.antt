-- The words that were gone over are copied.
use Rattle.std.proofs.Common.{◌≡◌, take}
use Rattle.av_perm.proofs.words.Words.copy.Given as goal

abbrev pub invariant-loop-word : goal.invariant-loop-word
invariant-loop-word l = l.copy ≡ take l.word-index l.word-items
