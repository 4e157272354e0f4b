-- Which equations of a system generate something.
use Rattle.std.specs.Prelude.{◌≡◌, ◌↔◌, ℕ, zero, suc, Bool, true, false, List, map, length, get_or, Some}
use Rattle.std.specs.List.{list_all, list_any}
use Rattle.av_sys.specs.declared.terms.Term.{Term}
use Rattle.av_sys.specs.declared.terms.Equation.{Equation}
use Rattle.av_sys.specs.declared.terms.System.{System}
use Rattle.av_sys.specs.Terms.{children_of}
use Rattle.av_sys.specs.Trees.{Tree, IsTree}

-- an equation is alive where it has a derivation tree
abbrev pub IsAlive : System → ℕ → Type 0
IsAlive S u = (T : Tree) × IsTree S u T

-- a term whose children are all marked, as a point's are, which has none
abbrev pub has_marked : List Bool → Term → Bool
has_marked marks t = list_all (λ c. get_or marks c false) (children_of (Some t))

-- the equations that have such a term
abbrev pub mark_next : List Equation → List Bool → List Bool
mark_next equations marks = map (λ (e : Equation). list_any (has_marked marks) e.terms) equations

-- the equations that have a derivation tree of at most so many levels
unfoldable pub marks_within : List Equation → ℕ → List Bool
marks_within equations zero = map (λ (e : Equation). false) equations
marks_within equations (suc levels) = mark_next equations (marks_within equations levels)

-- the equations that have a derivation tree: one of fewest levels has no equation twice on a path, so no more levels than
-- there are equations
abbrev pub alive_marks : List Equation → List Bool
alive_marks equations = marks_within equations (length equations)

-- the test for equations that are alive
abbrev pub alive : System → ℕ → Bool
alive S u = get_or (alive_marks S.equations) u false

-- it tells which are
abbrev pub AliveLaw : Type 0
AliveLaw = (S : System) (u : ℕ) → (alive S u ≡ true) ↔ IsAlive S u
