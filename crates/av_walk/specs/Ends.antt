-- How the walk ends in cells, and which leaves it gives.
use Rattle.std.specs.Prelude.{◌≡◌, ℕ, ◌<◌, false, List, [], ◌∷◌, length, reverse, get_or, Option, Some, None, Result, Ok, Err}
use Rattle.av_perm.specs.declared.words.Memory.{Memory}
use Rattle.av_sys.specs.declared.terms.Equation.{Equation}
use Rattle.av_sys.specs.declared.terms.System.{System}
use Rattle.av_split.specs.Boxes.{Box}
use Rattle.av_split.specs.Marks.{box_of}
use Rattle.av_split.specs.Paths.{CanEnter, AreTurns, IsEntered, GoesBack}
use Rattle.av_split.specs.declared.path.Path.{Path}
use Rattle.av_walk.specs.declared.looking.Look.{Look}
use Rattle.av_walk.specs.declared.looking.State.{State}
use Rattle.av_walk.specs.declared.looking.Look.TheVariants as looks
use Rattle.av_walk.specs.declared.leaves.CellEnd.{CellEnd}
use Rattle.av_walk.specs.declared.leaves.CellEnd.TheVariants as cells
use Rattle.av_walk.specs.declared.leaves.Plan.{Plan}
use Rattle.av_walk.specs.Walk.{Leaf, good, bare, twice, extra}
use Rattle.av_walk.specs.Looks.{ending_of, AreAll}
use Rattle.av_walk.specs.Paths.{asked_of, IsWalk}

-- a plan for the walk of a root and an equation of a system, and a path that goes by it
pub record IsPlanned (S : System) (root : List ℕ) (e : Equation) (plan : Plan) (path : Option (Path State)) : Type 0 where
  pub walk : IsWalk root e.name.avoid e.name.require (asked_of S root e) plan.table plan.demands plan.terms path
  pub all : AreAll plan.terms plan.all.items

-- the end is that of the leaf, and a bare one tells its cell
abbrev pub IsEndOf : CellEnd → Leaf Box → Type 0
IsEndOf cells.Good l = l.ending ≡ good
IsEndOf (cells.Bare b) l = (l.ending ≡ bare) × (l.cell ≡ b)
IsEndOf cells.Twice l = l.ending ≡ twice
IsEndOf cells.Extra l = l.ending ≡ extra

-- a leaf is given, or a box is cut
abbrev pub Advances : List (List ℕ) → Look → Path State → Option CellEnd → Option (Path State) → Type 0
Advances ps (looks.Ends kind) p found next =
    ((end : CellEnd) × (found ≡ Some end) × IsEndOf end (record { cell = box_of ps p.rows.items; ending = ending_of kind })) × GoesBack ps (reverse p.turns.items) p.rows.items next
Advances ps (looks.Cut cell state) p found next = (found ≡ None) × (q : Path State) × (next ≡ Some q) × IsEntered false ps cell state p.rows.items (reverse p.turns.items) q

-- so it can be
abbrev pub CanAdvance : List (List ℕ) → Path State → Look → Type 0
CanAdvance ps p (looks.Ends kind) = ((i : ℕ) → i < length p.rows.items → length (get_or p.rows.items i []) ≡ length ps) × AreTurns ps p.turns.items p.rows.items
CanAdvance ps p (looks.Cut cell state) = CanEnter ps p.rows.items cell

-- the first of some leaves was taken, if there is one
abbrev pub Takes : Option CellEnd → List (Leaf Box) → List (Leaf Box) → Type 0
Takes None before after = (before ≡ []) × (after ≡ [])
Takes (Some end) before after = (l : Leaf Box) × IsEndOf end l × (before ≡ l ∷ after)

-- the same, unless memory is wanting, which ends the walk
abbrev pub GivesEnd : Option (Result CellEnd Memory) → List (Leaf Box) → List (Leaf Box) → Type 0
GivesEnd None before after = (before ≡ []) × (after ≡ [])
GivesEnd (Some (Ok end)) before after = (l : Leaf Box) × IsEndOf end l × (before ≡ l ∷ after)
GivesEnd (Some (Err e)) before after = after ≡ []
