-- What the bytes that were taken say, as a script or as a claim, is what all the bytes of the source say.
use Rattle.av_session.proofs.Wholes.{text_whole, fits_whole}
use Rattle.av_session.proofs.ClaimWholes.{whole_read}
use Rattle.av_session.proofs.top.run_with.Goals as goal

pub returns-in-Ok-clause-fits : goal.returns-in-Ok-clause-fits
returns-in-Ok-clause-fits g c =
    fits_whole c.args.options.now c.in-None.is _ _ c.in-Ok.bytes.items _ c.most_bytes.ensures c.in-Ok.ensures.taken c.answer_bytes.result (rw c.deref.ensures.value at c.answer_bytes.ensures.fits)

pub returns-in-Ok-clause-text : goal.returns-in-Ok-clause-text
returns-in-Ok-clause-text g c =
    text_whole c.args.options.now c.in-None.is _ _ c.in-Ok.bytes.items _ c.most_bytes.ensures c.in-Ok.ensures.taken c.answer_bytes.result (g.K.Sink.held c.args.sink.now) (g.K.Sink.held c.answer_bytes.new.sink) (rw c.deref.ensures.value at c.answer_bytes.ensures.text)

pub returns-in-Ok-clause-input : goal.returns-in-Ok-clause-input
returns-in-Ok-clause-input g c none =
    whole_read c.args.options.now _ _ c.in-Ok.bytes.items _ c.most_bytes.ensures c.in-Ok.ensures.taken c.answer_bytes.result (rw c.deref.ensures.value at c.answer_bytes.ensures.fits) (rw c.deref.ensures.value at c.answer_bytes.ensures.check_fits)
