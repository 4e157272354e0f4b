-- Words: each number from 1 to the length comes once.
use Rattle.av_perm.proofs.WordTests.{word_from, word_to}
use Rattle.av_perm.proofs.laws.word_law.Goals as goal

pub returns : goal.returns
returns c w = (word_from w, word_to w)
