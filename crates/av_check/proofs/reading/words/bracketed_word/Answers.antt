-- A word stands in brackets exactly where its text begins with one.
use Rattle.av_check.proofs.ReadAs.{reads_as}
use Rattle.av_check.proofs.RootTexts.{bracketed_same, plain_same}
use Rattle.av_check.proofs.reading.words.bracketed_word.Goals as goal

pub returns-in-Some : goal.returns-in-Some
returns-in-Some c = reads_as (bracketed_same c.args.token.now c.in-Some.rest.now c.in-Some.ensures) c.closed_word.result c.closed_word.ensures

pub returns-in-None : goal.returns-in-None
returns-in-None c = reads_as (plain_same c.args.token.now c.in-None.ensures) c.short_word.result c.short_word.ensures
