-- A word with commas has ten entries at least.
use Rattle.std.proofs.Common.{sym, ap, ◌∙◌, length, arith}
use Rattle.av_check.proofs.Spellings.{pattern_once}
use Rattle.av_check.proofs.reading.words.long_word.Goals as goal

pub returns-else-len-gt-MAX_COMPACT_LENGTH : goal.returns-else-len-gt-MAX_COMPACT_LENGTH
returns-else-len-gt-MAX_COMPACT_LENGTH c v p e =
    let w = c.in_ok-word.ensures in
    let same = pattern_once v c.in_ok-word.word p.0 w.0 (sym e ∙ w.1) in
    omega (arith, ap length same)
