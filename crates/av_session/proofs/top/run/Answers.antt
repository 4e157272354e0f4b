-- The words of the command line set the options, and each script is about its basis.
use Rattle.std.proofs.Common.{sym}
use Rattle.av_session.proofs.Abouts.{about, cases}
use Rattle.av_session.proofs.Systems.{writes_system}
use Rattle.av_session.proofs.Wholes.{asked_none, asked_some, due_text, due_fits, most_taken, most_whole, no_options_fits, memory_fits_all, complete_by}
use Rattle.av_session.proofs.AllowedOptions.{options_allowed}
use Rattle.av_session.proofs.Told.{has_told}
use Rattle.av_session.proofs.AboutClaims.{about_claim}
use Rattle.av_session.proofs.ClaimWholes.{told_text_due, told_fits_due, no_options_told, memory_fits_told, memory_holds_told, check_complete_by}
use Rattle.av_session.proofs.top.run.Goals as goal

pub returns-in-Ok-clause-fits : goal.returns-in-Ok-clause-fits
returns-in-Ok-clause-fits g c = due_fits _ c.in-Ok.options c.run_with.result _ (sym c.in-Ok.ensures.said) c.run_with.ensures.fits

pub returns-in-Ok-clause-text : goal.returns-in-Ok-clause-text
returns-in-Ok-clause-text g c = due_text _ c.in-Ok.options c.run_with.result _ _ _ (sym c.in-Ok.ensures.said) c.run_with.ensures.text

pub returns-in-Ok-clause-about : goal.returns-in-Ok-clause-about
returns-in-Ok-clause-about g c bytes script e = about bytes script e

pub returns-in-Err-Words-clause-fits : goal.returns-in-Err-Words-clause-fits
returns-in-Err-Words-clause-fits g c = let e = rw c.in-Err-Words.field-0-is at c.in-Err-Words.ensures in no_options_fits _ _ _ (sym e.said)

pub returns-in-Err-Words-clause-about : goal.returns-in-Err-Words-clause-about
returns-in-Err-Words-clause-about g c bytes script e = about bytes script e

pub returns-in-Err-Memory-clause-fits : goal.returns-in-Err-Memory-clause-fits
returns-in-Err-Memory-clause-fits g c = memory_fits_all _ _

pub returns-in-Err-Memory-clause-about : goal.returns-in-Err-Memory-clause-about
returns-in-Err-Memory-clause-about g c bytes script e = about bytes script e

pub returns-in-Ok-clause-complete : goal.returns-in-Ok-clause-complete
returns-in-Ok-clause-complete g c =
    complete_by c.run_with.result _ _ _ _ (λ e. absurd (c.run_with.ensures.not_words e)) c.run_with.ensures.read_fault c.run_with.ensures.write_fault
    (due_fits _ c.in-Ok.options c.run_with.result _ (sym c.in-Ok.ensures.said) c.run_with.ensures.fits)

pub returns-in-Ok-clause-exact : goal.returns-in-Ok-clause-exact
returns-in-Ok-clause-exact g c = writes_system _

pub returns-in-Err-Words-clause-exact : goal.returns-in-Err-Words-clause-exact
returns-in-Err-Words-clause-exact g c = writes_system _

pub returns-in-Err-Memory-clause-exact : goal.returns-in-Err-Memory-clause-exact
returns-in-Err-Memory-clause-exact g c = writes_system _

pub returns-in-Ok-clause-cases : goal.returns-in-Ok-clause-cases
returns-in-Ok-clause-cases g c bytes o script e = cases o bytes script e

pub returns-in-Err-Words-clause-cases : goal.returns-in-Err-Words-clause-cases
returns-in-Err-Words-clause-cases g c bytes o script e = cases o bytes script e

pub returns-in-Err-Memory-clause-cases : goal.returns-in-Err-Memory-clause-cases
returns-in-Err-Memory-clause-cases g c bytes o script e = cases o bytes script e

pub returns-in-Ok-clause-unread_demo : goal.returns-in-Ok-clause-unread_demo
returns-in-Ok-clause-unread_demo g c = asked_some _ c.in-Ok.options _ (sym c.in-Ok.ensures.said) c.run_with.ensures.unread_demo

pub returns-in-Ok-clause-no_read_fault : goal.returns-in-Ok-clause-no_read_fault
returns-in-Ok-clause-no_read_fault g c = asked_some _ c.in-Ok.options _ (sym c.in-Ok.ensures.said) c.run_with.ensures.no_read_fault

pub returns-in-Ok-clause-input : goal.returns-in-Ok-clause-input
returns-in-Ok-clause-input g c e = most_whole _ c.in-Ok.options c.run_with.result _ _ (sym c.in-Ok.ensures.said) (c.run_with.ensures.input (asked_none _ c.in-Ok.options (sym c.in-Ok.ensures.said) e))

pub returns-in-Ok-clause-took : goal.returns-in-Ok-clause-took
returns-in-Ok-clause-took g c = most_taken _ c.in-Ok.options _ _ (sym c.in-Ok.ensures.said) c.run_with.ensures.took

pub returns-in-Ok-clause-check_fits : goal.returns-in-Ok-clause-check_fits
returns-in-Ok-clause-check_fits g c = told_fits_due _ c.in-Ok.options c.run_with.result _ (sym c.in-Ok.ensures.said) c.run_with.ensures.check_fits

pub returns-in-Ok-clause-check_text : goal.returns-in-Ok-clause-check_text
returns-in-Ok-clause-check_text g c = told_text_due _ c.in-Ok.options c.run_with.result _ _ _ (sym c.in-Ok.ensures.said) c.run_with.ensures.check_text

pub returns-in-Ok-clause-check_complete : goal.returns-in-Ok-clause-check_complete
returns-in-Ok-clause-check_complete g c =
    check_complete_by c.run_with.result _ _ _ _ (λ e. absurd (c.run_with.ensures.not_words e)) c.run_with.ensures.read_fault c.run_with.ensures.write_fault
    (told_fits_due _ c.in-Ok.options c.run_with.result _ (sym c.in-Ok.ensures.said) c.run_with.ensures.check_fits)

pub returns-in-Ok-clause-told : goal.returns-in-Ok-clause-told
returns-in-Ok-clause-told g c = has_told

pub returns-in-Ok-clause-about_claim : goal.returns-in-Ok-clause-about_claim
returns-in-Ok-clause-about_claim g c bytes o claim e is = about_claim o bytes claim (options_allowed _ o e) is

pub returns-in-Err-Words-clause-check_fits : goal.returns-in-Err-Words-clause-check_fits
returns-in-Err-Words-clause-check_fits g c = let e = rw c.in-Err-Words.field-0-is at c.in-Err-Words.ensures in no_options_told _ _ _ (sym e.said)

pub returns-in-Err-Words-clause-check_text : goal.returns-in-Err-Words-clause-check_text
returns-in-Err-Words-clause-check_text g c = let e = rw c.in-Err-Words.field-0-is at c.in-Err-Words.ensures in no_options_told _ _ _ (sym e.said)

pub returns-in-Err-Words-clause-told : goal.returns-in-Err-Words-clause-told
returns-in-Err-Words-clause-told g c = has_told

pub returns-in-Err-Words-clause-about_claim : goal.returns-in-Err-Words-clause-about_claim
returns-in-Err-Words-clause-about_claim g c bytes o claim e is = about_claim o bytes claim (options_allowed _ o e) is

pub returns-in-Err-Memory-clause-check_fits : goal.returns-in-Err-Memory-clause-check_fits
returns-in-Err-Memory-clause-check_fits g c = memory_fits_told _ _

pub returns-in-Err-Memory-clause-check_text : goal.returns-in-Err-Memory-clause-check_text
returns-in-Err-Memory-clause-check_text g c = memory_holds_told _ _ _

pub returns-in-Err-Memory-clause-told : goal.returns-in-Err-Memory-clause-told
returns-in-Err-Memory-clause-told g c = has_told

pub returns-in-Err-Memory-clause-about_claim : goal.returns-in-Err-Memory-clause-about_claim
returns-in-Err-Memory-clause-about_claim g c bytes o claim e is = about_claim o bytes claim (options_allowed _ o e) is
