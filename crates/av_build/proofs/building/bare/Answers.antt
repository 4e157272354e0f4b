-- The equation of the name alone is what has grown.
use Rattle.std.proofs.Common.{◌≡◌, [], ◌∷◌, ◌++◌, List, refl}
use Rattle.av_sys.specs.declared.names.Name.{Name}
use Rattle.av_sys.specs.declared.terms.Term.{Term}
use Rattle.av_sys.specs.declared.terms.Equation.{Equation}
use Rattle.av_sys.specs.declared.terms.System.{System}
use Rattle.av_build.specs.Canonical.{as_system, bare}
use Rattle.av_build.proofs.Growth.{void_grown}
use Rattle.av_build.proofs.building.bare.Goals as goal

-- one equation pushed to none is the system of a name alone
alone : (name copy : Name) (terms : List Term) (before after : List Equation) → copy ≡ name → terms ≡ [] → before ≡ []
    → after ≡ before ++ record { name = copy; terms = terms } ∷ [] → (let S : System = record { equations = after } in S) ≡ as_system (bare name)
alone name copy terms before after c t b a = rw (a, b, c, t) refl

pub returns : goal.returns
returns c roots v =
    void_grown roots c.args.name.now c.args.limit _ v c.requires
    (alone c.args.name.now c.in_ok-name.name c.empty-terms.result c.empty-equations.result c.push.new.self c.in_ok-name.ensures c.empty-terms.ensures c.empty-equations.ensures c.in_ok-push.ensures.ok)
