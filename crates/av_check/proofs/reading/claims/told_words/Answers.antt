-- A line of words is its key and the words of the other tokens.
use Rattle.std.proofs.Common.{ap, ◌∙◌}
use Rattle.av_check.proofs.Loops.{bytes}
use Rattle.av_check.proofs.ReadAs.{reads_ok_as}
use Rattle.av_check.proofs.TokenLines.{words_same}
use Rattle.av_check.proofs.reading.claims.told_words.Goals as goal

pub returns : goal.returns
returns c =
    reads_ok_as (words_same c.args.key.now c.args.line.now (bytes c.deref.result.now) c.requires (ap bytes c.deref.ensures.value ∙ c.in_ok-tokens.ensures))
    c.keyed_words.result c.keyed_words.ensures
