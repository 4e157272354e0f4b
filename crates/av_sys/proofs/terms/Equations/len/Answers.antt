-- The names are those of the list that is held.
use Rattle.std.proofs.Common.{All, List, subst}
use Rattle.av_sys.specs.declared.terms.Equation.{Equation}
use Rattle.av_sys.specs.Names.{IsMadeOfWords}
use Rattle.av_sys.proofs.terms.Equations.len.Goals as goal

pub returns-clause-names : goal.returns-clause-names
returns-clause-names c = subst (λ (es : List Equation). All (λ e. IsMadeOfWords e.name) es) c.self.view_is c.self.invariant
