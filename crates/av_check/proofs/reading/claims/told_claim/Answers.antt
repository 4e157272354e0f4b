-- Where the first lines or those of the system stop the reading, so do those of the claim.
use Rattle.std.proofs.lemmas.Result.{err_from_is_err_and}
use Rattle.av_check.proofs.ClaimLines.{first_error, system_error, takes_claim}
use Rattle.av_check.proofs.reading.claims.told_claim.Goals as goal

pub returns-in_err-basis : goal.returns-in_err-basis
returns-in_err-basis c =
    let p = err_from_is_err_and c.from_residual.result c.from_residual.ensures.1 in
    rw (p.1, p.2) (first_error c.in_err-basis.field-0.0 c.args.lines.now c.told_front.new.lines c.in_err-basis.ensures)

pub returns-in_err-system : goal.returns-in_err-system
returns-in_err-system c =
    let p = err_from_is_err_and c.from_residual-in_err-system.result c.from_residual-in_err-system.ensures.1 in
    rw (p.1, p.2)
    (system_error c.in_ok-basis.field-0 c.in_err-system.field-0.0 c.args.lines.now c.told_front.new.lines c.told_system.new.lines c.in_ok-basis.ensures c.in_err-system.ensures)

pub returns : goal.returns
returns c = takes_claim c.in_ok-basis.field-0 c.in_ok-system.system c.args.lines.now c.told_front.new.lines c.in_ok-basis.ensures c.in_ok-system.ensures
