-- The version, the number of equations and that of terms are each within their bounds, or there are no such counts.
use Rattle.av_check.proofs.Announced.{no_terms}
use Rattle.av_check.proofs.reading.announced.numbers_of.Goals as goal

pub returns-in_err-terms : goal.returns-in_err-terms
returns-in_err-terms c =
    let x = c.in_ok-equations.ensures in
    rw c.from_residual-in_err-terms.ensures (no_terms c.args.version.now c.args.equations.now c.args.terms.now c.in_ok-equations.equations x.0.1 x.1 c.in_err-terms.ensures)
