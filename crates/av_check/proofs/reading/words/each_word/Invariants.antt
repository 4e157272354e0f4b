-- The words that were read are those of the tokens gone over.
use Rattle.av_print.specs.Text.{word_text}
use Rattle.av_text.specs.Ranges.{IsPattern}
use Rattle.av_check.proofs.Loops.{HaveRead}
use Rattle.av_check.proofs.reading.words.each_word.Given as goal

abbrev pub invariant-loop-token : goal.invariant-loop-token
invariant-loop-token l = HaveRead IsPattern word_text l.words l.tokens l.token-index
