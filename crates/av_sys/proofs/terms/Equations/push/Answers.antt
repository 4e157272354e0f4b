-- The words of the new name are those that its lists hold.
use Rattle.std.proofs.Common.{◌≡◌, All, List, [], ◌∷◌, ◌++◌, Bool, true, false, if◌then◌else◌, sym, subst}
use Rattle.std.proofs.lemmas.List.Elements.{All-push}
use Rattle.av_sys.specs.declared.terms.Equation.{Equation}
use Rattle.av_sys.specs.Names.{IsMadeOfWords}
use Rattle.av_sys.proofs.terms.Equations.push.Goals as goal

abbrev IsNamed : Equation → Type 0
IsNamed e = IsMadeOfWords e.name

kept : (pushed : Bool) (old new : List Equation) (e : Equation) → All IsNamed old → IsNamed e → new ≡ (if pushed then old ++ e ∷ [] else old) → All IsNamed new
kept true old new e h n is = subst (All IsNamed) (sym is) (All-push IsNamed old e h n)
kept false old new e h n is = subst (All IsNamed) (sym is) h

pub invariant_of-self : goal.invariant_of-self
invariant_of-self c = kept _ _ _ c.args.equation c.self.invariant (record { avoided = c.len-avoid.ensures.words; required = c.len-require.ensures.words }) c.push.ensures.items
