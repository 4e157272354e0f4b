-- The walk over the boxes: the path to the present one, and which boxes are left.
use Rattle.std.specs.List.{flat_map}
use Rattle.std.specs.Prelude.{◌≡◌, ℕ, ◌<◌, ◌≤◌, false, List, [], ◌∷◌, Bool, length, take, reverse, get_or, Option, Some, None, Result, Ok, Err}
use Rattle.av_perm.specs.declared.words.Memory.{Memory}
use Rattle.av_perm.specs.Members.{In}
use Rattle.av_perm.specs.Relations.{IsWord}
use Rattle.av_name.specs.Constraints.{known_of}
use Rattle.av_name.specs.declared.constraints.Known.TheVariants.{Inside, Open}
use Rattle.av_split.specs.declared.cells.Cell.{Cell}
use Rattle.av_split.specs.declared.rows.Mark.{Mark}
use Rattle.av_split.specs.declared.path.Path.{Path}
use Rattle.av_split.specs.declared.path.Turn.{Turn}
use Rattle.av_split.specs.declared.steps.Step.{Step}
use Rattle.av_split.specs.declared.steps.Step.TheVariants.{Holds, Fails, Asks}
use Rattle.av_split.specs.Split.{Demand, demand_known, demands_known, next_question, all_of, boxes_by}
use Rattle.av_split.specs.Boxes.{Question, Box, word_rules, demands}
use Rattle.av_split.specs.Laws.{IsTidy}
use Rattle.av_split.specs.Marks.{unmarked, constraint_of, box_of}
use Rattle.av_split.specs.Cells.{AreDemandsOf, known_at, AreSafe}
use Rattle.av_split.specs.Paths.{AreCutsBy, parts_of, CanEnter, AreTurns, IsEntered, GoesBack}

-- the marks of a child are what its constraint tells of the patterns
pub record IsRow (ps : List (List ℕ)) (row : List Mark) : Type 0 where
  pub size : length row ≡ length ps
  pub avoid : (w : List ℕ) → In w (constraint_of ps row).avoid → IsWord w
  pub require : (w : List ℕ) → In w (constraint_of ps row).require → IsWord w
  pub long : (w : List ℕ) → In w (constraint_of ps row).require → 2 ≤ length w
  pub tidy : IsTidy (constraint_of ps row)
  pub known : (i : ℕ) → i < length ps → (get_or row i unmarked).known ≡ known_of (constraint_of ps row) (get_or ps i [])

-- a row for each of `k` children
pub record AreRows (k : ℕ) (ps : List (List ℕ)) (rows : List (List Mark)) : Type 0 where
  pub count : length rows ≡ k
  pub each : (i : ℕ) → i < k → IsRow ps (get_or rows i [])

-- the first open cell of an open box of `k` children, in which so many demands are done
pub record IsOpen (k : ℕ) (ps : List (List ℕ)) (asked : List (Demand Cell)) (rows : List (List Mark)) (n : ℕ) (cell : Cell) : Type 0 where
  pub marks : AreRows k ps rows
  pub known : demands_known (known_at rows) asked ≡ Open
  pub next : next_question (known_at rows) asked ≡ Some cell
  pub within : n ≤ length asked
  pub done : all_of (demand_known (known_at rows)) (take n asked) ≡ Inside

-- each cut of a path, from the last one on, was of an open box by its first open cell
abbrev pub AreCuts : ℕ → List (List ℕ) → List (Demand Cell) → List (Turn ℕ) → List (List Mark) → Type 0
AreCuts k ps asked = AreCutsBy (IsOpen k ps asked)

-- so many demands were done before the last cut, from which on the cuts are given
abbrev pub done_before : List (Turn ℕ) → ℕ
done_before [] = 0
done_before (t ∷ turns) = t.state

-- what was required or avoided at the last cut, if there is one
abbrev pub last_cut : List (Turn ℕ) → Option Bool
last_cut [] = None
last_cut (t ∷ turns) = Some t.required

-- a path to a box of `k` children
pub record IsPath (k : ℕ) (ps : List (List ℕ)) (asked : List (Demand Cell)) (p : Path ℕ) : Type 0 where
  pub marks : AreRows k ps p.rows.items
  pub within : done_before (reverse p.turns.items) ≤ length asked
  pub done : all_of (demand_known (known_at p.rows.items)) (take (done_before (reverse p.turns.items)) asked) ≡ Inside
  pub safe : AreSafe (last_cut (reverse p.turns.items)) (demand_known (known_at p.rows.items)) asked
  pub cuts : AreCuts k ps asked (reverse p.turns.items) p.rows.items

-- the boxes that they give
abbrev pub left_of : List (Demand Question) → List (List ℕ) → Option (Path ℕ) → List Box
left_of ds ps p = flat_map (boxes_by word_rules ds) (parts_of ps p)

-- the path, unless none is left, is of a root and a name, whose demands have these cells
pub record IsWalk (π : List ℕ) (A R ps : List (List ℕ)) (cells : List (Demand Cell)) (p : Option (Path ℕ)) : Type 0 where
  pub avoid : (w : List ℕ) → In w A → IsWord w
  pub require : (w : List ℕ) → In w R → IsWord w
  pub asked : AreDemandsOf (length π) ps cells (demands π A R)
  pub path : (q : Path ℕ) → p ≡ Some q → IsPath (length π) ps cells q

-- a box is given, dropped or cut
abbrev pub Advances : List (List ℕ) → Step → ℕ → Path ℕ → Option Box → Option (Path ℕ) → Type 0
Advances ps Holds n p found next = (found ≡ Some (box_of ps p.rows.items)) × GoesBack ps (reverse p.turns.items) p.rows.items next
Advances ps Fails n p found next = (found ≡ None) × GoesBack ps (reverse p.turns.items) p.rows.items next
Advances ps (Asks cell) n p found next = (found ≡ None) × (q : Path ℕ) × (next ≡ Some q) × IsEntered false ps cell n p.rows.items (reverse p.turns.items) q

-- a step can be taken
abbrev pub CanStep : List (List ℕ) → Path ℕ → Step → Type 0
CanStep ps p Holds = ((i : ℕ) → i < length p.rows.items → length (get_or p.rows.items i []) ≡ length ps) × AreTurns ps p.turns.items p.rows.items
CanStep ps p Fails = ((i : ℕ) → i < length p.rows.items → length (get_or p.rows.items i []) ≡ length ps) × AreTurns ps p.turns.items p.rows.items
CanStep ps p (Asks cell) = CanEnter ps p.rows.items cell

-- the first of some boxes was taken, if there is one
abbrev pub Takes : Option Box → List Box → List Box → Type 0
Takes None before after = (before ≡ []) × (after ≡ [])
Takes (Some b) before after = before ≡ b ∷ after

-- the same, unless memory is wanting, which ends the walk
abbrev pub GivesBox : Option (Result Box Memory) → List Box → List Box → Type 0
GivesBox None before after = (before ≡ []) × (after ≡ [])
GivesBox (Some (Ok b)) before after = before ≡ b ∷ after
GivesBox (Some (Err e)) before after = after ≡ []
