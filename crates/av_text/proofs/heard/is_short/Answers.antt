-- What the call of the crate below tells is the test of the definition.
use Rattle.av_text.proofs.Kept.{short_tells}
use Rattle.av_text.proofs.heard.is_short.Goals as goal

pub returns : goal.returns
returns c = short_tells c.args.basis.now c.args.united.now c.are_short.result c.are_short.ensures
