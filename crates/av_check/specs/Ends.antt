-- What an end of a walk tells, the cells that are numbered, and the equations whose cells are walked over.
use Rattle.std.specs.Prelude.{◌≡◌, ℕ, ◌-◌, ◌^◌, List, Option, Some, None}
use Rattle.av_perm.specs.Members.{In}
use Rattle.av_sys.specs.declared.names.Name.{Name}
use Rattle.av_split.specs.Boxes.{Box}
use Rattle.av_build.specs.declared.limits.TheConstants.{MAX_SIZE}
use Rattle.av_build.specs.Drafts.{child_names}
use Rattle.av_build.specs.Laws.{AreRoots, Covers}
use Rattle.av_walk.specs.declared.leaves.CellEnd.{CellEnd}
use Rattle.av_walk.specs.declared.leaves.CellEnd.TheVariants as cells
use Rattle.av_walk.specs.Walk.{Leaf}
use Rattle.av_check.specs.declared.cells.TestedEquation.{TestedEquation}
use Rattle.av_check.specs.declared.verdict.Flaw.{Flaw}
use Rattle.av_check.specs.declared.verdict.Flaw.TheVariants.{Twice, Extra}
use Rattle.av_check.specs.Verdicts.{first_sign, bare_flaw, at_most, first_leaf}
use Rattle.av_check.specs.Checks.{IsTaken}
use Rattle.av_check.specs.Outcomes.{IsGrowable}

-- the flaw of a cell of a root where a walk ends so
abbrev pub end_flaw : List (List ℕ) → List ℕ → CellEnd → Option Flaw
end_flaw simples root cells.Good = None
end_flaw simples root (cells.Bare cell) = bare_flaw MAX_SIZE simples (child_names (first_sign root) cell)
end_flaw simples root cells.Twice = Some Twice
end_flaw simples root cells.Extra = Some Extra

-- the canonical systems of the names of a bare cell can be grown
abbrev pub IsGrowableEnd : List (List ℕ) → List ℕ → CellEnd → Type 0
IsGrowableEnd basis root cells.Good = Unit {0}
IsGrowableEnd basis root (cells.Bare cell) = (n : Name) → In n (child_names (first_sign root) cell) → IsGrowable basis n
IsGrowableEnd basis root cells.Twice = Unit {0}
IsGrowableEnd basis root cells.Extra = Unit {0}

-- no leaf before those that are left has a flaw, and the first of them has this number, as far as numbers go
pub record IsLeft (f : Leaf Box → Option Flaw) (root : List ℕ) (all left : List (Leaf Box)) (number : ℕ) : Type 0 where
  pub gone : ℕ
  pub number_is : number ≡ at_most (2 ^ 64 - 1) gone
  pub first : first_leaf f root gone left ≡ first_leaf f root 0 all
  pub among : (l : Leaf Box) → In l left → In l all

-- an equation of a system that is taken, whose avoided words cover those of the first name, and simple roots
pub record IsTested (t : TestedEquation) : Type 0 where
  pub taken : IsTaken t.system.now
  pub listed : In t.equation.now t.system.now.equations
  pub covers : Covers t.first.now.avoid t.equation.now.name.avoid
  pub roots : AreRoots t.simples.now
