-- What was read is the one claim that the bytes are, or the one fault that they have.
use Rattle.std.proofs.Common.{Ok, Err, subst}
use Rattle.av_session.specs.Status.{HoldsText}
use Rattle.av_session.specs.Checked.{told_text, FitsTold}
use Rattle.av_session.proofs.Told.{told_once, claim_taken}
use Rattle.av_session.proofs.checking.answer_claim.Goals as goal

pub returns-in-Ok-clause-text : goal.returns-in-Ok-clause-text
returns-in-Ok-clause-text g c told p =
    subst (λ t. HoldsText c.answer_read.result (g.K.Sink.held c.args.sink.now) (g.K.Sink.held c.answer_read.new.sink) (told_text c.args.options.now t)) (told_once c.args.bytes.now (Ok c.in-Ok.claim) told c.in-Ok.ensures p) c.answer_read.ensures.text

pub returns-in-Ok-clause-fits : goal.returns-in-Ok-clause-fits
returns-in-Ok-clause-fits g c told p =
    subst (FitsTold c.answer_read.result c.args.options.now) (told_once c.args.bytes.now (Ok c.in-Ok.claim) told c.in-Ok.ensures p) c.answer_read.ensures.fits

pub answer_read-requires-clause-claim : goal.answer_read-requires-clause-claim
answer_read-requires-clause-claim g c = claim_taken c.args.bytes.now c.in-Ok.claim c.in-Ok.ensures

pub returns-in-Err-Refused-clause-text : goal.returns-in-Err-Refused-clause-text
returns-in-Err-Refused-clause-text g c told p =
    subst (λ t. HoldsText c.refuse.result (g.K.Sink.held c.args.sink.now) (g.K.Sink.held c.refuse.new.sink) (told_text c.args.options.now t))
    (told_once c.args.bytes.now (Err (record { line = c.in-Err-Refused.line; kind = c.in-Err-Refused.kind })) told (rw c.in-Err-Refused.field-0-is at c.in-Err-Refused.ensures) p)
    c.refuse.ensures.text

pub returns-in-Err-Refused-clause-fits : goal.returns-in-Err-Refused-clause-fits
returns-in-Err-Refused-clause-fits g c told p =
    subst (FitsTold c.refuse.result c.args.options.now) (told_once c.args.bytes.now (Err (record { line = c.in-Err-Refused.line; kind = c.in-Err-Refused.kind })) told (rw c.in-Err-Refused.field-0-is at c.in-Err-Refused.ensures) p) c.refuse.ensures.fits
