-- The avoided words stand before `require`; without that word it is no equation.
use Rattle.av_check.proofs.Loops.{bytes}
use Rattle.av_check.proofs.ReadAs.{reads_ok_as}
use Rattle.av_check.proofs.EquationTokens.{avoiding_same, no_required, no_avoided}
use Rattle.av_check.proofs.reading.equations.signed_equation.Goals as goal

pub returns-in_default : goal.returns-in_default
returns-in_default c = no_required c.args.count c.args.sign (bytes c.args.tokens.now) c.in_default.ensures

pub returns-in_default-2 : goal.returns-in_default-2
returns-in_default-2 c =
    let cut = c.in-Some.ensures in
    let none = rw c.in_default-2.is at c.in_ok-avoid.ensures in
    no_avoided c.args.count c.args.sign (bytes c.args.tokens.now) _ _ cut.0 cut.1 none

pub returns : goal.returns
returns c =
    let cut = c.in-Some.ensures in
    let a = rw c.in-Some-2.is at c.in_ok-avoid.ensures in
    reads_ok_as (avoiding_same c.args.count c.args.sign c.in-Some-2.avoid (bytes c.args.tokens.now) _ _ a.0 a.1 cut.0 cut.1) c.avoiding_equation.result c.avoiding_equation.ensures
