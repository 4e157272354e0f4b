-- As many words were taken.
use Rattle.std.proofs.Common.{◌≡◌, drop}
use Rattle.av_perm.specs.Word.{words}
use Rattle.av_text.proofs.demo.word_at.Given as goal

abbrev pub invariant-loop : goal.invariant-loop
invariant-loop l = l.words ≡ drop l.counter (words 4)
