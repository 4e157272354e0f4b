-- The required words stand before `=`; without it, or where a part of it is wrong, it is no equation.
use Rattle.av_check.proofs.Loops.{bytes}
use Rattle.av_check.proofs.EquationTokens.{made_cut, no_terms}
use Rattle.av_check.proofs.reading.equations.avoiding_equation.Goals as goal

pub returns-in_default : goal.returns-in_default
returns-in_default c e p f = no_terms (bytes c.args.tokens.now) e c.in_default.ensures f

pub returns-in_default-2 : goal.returns-in_default-2
returns-in_default-2 c e p f =
    let cut = c.in-Some.ensures in
    let none = rw c.in_default-2.is at c.in_ok-require.ensures in
    none e.name.require p.required (made_cut (bytes c.args.tokens.now) _ _ e cut.0 cut.1 p.required f).0

pub returns-in_default-3 : goal.returns-in_default-3
returns-in_default-3 c e p f =
    let cut = c.in-Some.ensures in
    let none = rw c.in_default-3.is at c.in_ok-terms.ensures in
    none e.terms p.terms (made_cut (bytes c.args.tokens.now) _ _ e cut.0 cut.1 p.required f).1
