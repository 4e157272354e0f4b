-- A word is spelt in one way only, so a token that is spelt otherwise is none.
use Rattle.av_check.proofs.Spellings.{word_spelt, word_none, spelt_way, spelt_passes}
use Rattle.av_check.proofs.reading.words.word_of.Goals as goal
use Rattle.av_check.proofs.reading.words.word_of.Goals.{in_default-via-in-Ok+else-is_spelt, in_default-via-in_default}

pub returns-in-Ok : goal.returns-in-Ok
returns-in-Ok c = word_spelt c.args.token.now c.in-Ok.word c.in-Ok.ensures (spelt_way c.in-Ok.word c.args.token.now c.if-is_spelt.ensures)

pub returns-in_default : goal.returns-in_default
returns-in_default c v is e =
    let n = word_none c.args.token.now c.read_word.result c.read_word.ensures v is e in
    elim c.in_default.branch [
      | in_default-via-in-Ok+else-is_spelt w ↦ spelt_passes c.read_word.result v w.in-Ok.word c.args.token.now n.0 w.in-Ok.is n.1 w.if-is_spelt.ensures
      | in_default-via-in_default w ↦ w.in_default.not-Ok v n.0
    ]
