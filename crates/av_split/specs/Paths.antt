-- The path to a box: the cuts that lead to it, each with what is remembered of the box that was cut, and the way back.
use Rattle.std.specs.Prelude.{◌≡◌, ℕ, ◌<◌, true, false, cond, List, [], ◌∷◌, ◌++◌, Bool, length, reverse, get_or, set, Option, Some, None}
use Rattle.av_perm.specs.Members.{In}
use Rattle.av_split.specs.declared.cells.Cell.{Cell}
use Rattle.av_split.specs.declared.rows.Mark.{Mark}
use Rattle.av_split.specs.declared.path.Path.{Path}
use Rattle.av_split.specs.declared.path.Turn.{Turn}
use Rattle.av_split.specs.Boxes.{Box, word_rules}
use Rattle.av_split.specs.Marks.{IsSettledRow, box_of}
use Rattle.av_split.specs.Cells.{question_at}

-- the rows of a box before it was cut
abbrev pub before : {S : Type 0} → Turn S → List (List Mark) → List (List Mark)
before t rows = set rows t.cell.child t.row

-- each cut, from the last one on, was a `C`: of a box with these rows, of which this was remembered, by this cell
abbrev pub AreCutsBy : {S : Type 0} → (List (List Mark) → S → Cell → Type 0) → List (Turn S) → List (List Mark) → Type 0
AreCutsBy C [] rows = Unit {0}
AreCutsBy C (t ∷ turns) rows = C (before t rows) t.state t.cell × AreCutsBy C turns (before t rows)

-- the parts that a path leaves for later, from its last cut on
abbrev pub parts_left : {S : Type 0} → List (List ℕ) → List (Turn S) → List (List Mark) → List Box
parts_left ps [] rows = []
parts_left ps (t ∷ turns) rows = cond t.required [] (word_rules.settle true (box_of ps (before t rows)) (question_at ps t.cell) ∷ []) ++ parts_left ps turns (before t rows)

-- the box that a path leads to, and the parts that it leaves for later
abbrev pub parts_of : {S : Type 0} → List (List ℕ) → Option (Path S) → List Box
parts_of ps None = []
parts_of ps (Some p) = box_of ps p.rows.items ∷ parts_left ps (reverse p.turns.items) p.rows.items

-- a cell is one of the rows
pub record CanEnter (ps : List (List ℕ)) (rows : List (List Mark)) (cell : Cell) : Type 0 where
  pub child : cell.child < length rows
  pub pattern : cell.pattern < length ps
  pub size : length (get_or rows cell.child []) ≡ length ps

-- the cells of cuts are of the rows
abbrev pub AreTurns : {S : Type 0} → List (List ℕ) → List (Turn S) → List (List Mark) → Type 0
AreTurns {S} ps turns rows = (t : Turn S) → In t turns → (t.cell.child < length rows) × (t.cell.pattern < length ps) × (length t.row ≡ length ps)

-- a path once the box with these rows, after these cuts, is cut by a cell, of which the pattern is required then, or avoided
pub record IsEntered {S : Type 0} (required : Bool) (ps : List (List ℕ)) (cell : Cell) (state : S) (marks : List (List Mark)) (cuts : List (Turn S)) (next : Path S) : Type 0 where
  pub row : List Mark
  pub settled : IsSettledRow required ps cell.pattern (get_or marks cell.child []) row
  pub rows : next.rows.items ≡ set marks cell.child row
  pub turns : reverse next.turns.items ≡ record { cell = cell; row = get_or marks cell.child []; state = state; required = required } ∷ cuts

-- one of two
abbrev pub Either : Bool → Type 0 → Type 0 → Type 0
Either true X Y = X
Either false X Y = Y

-- the way back along cuts, from the last one on, to the first that leaves a part for later, which is entered
abbrev pub GoesBack : {S : Type 0} → List (List ℕ) → List (Turn S) → List (List Mark) → Option (Path S) → Type 0
GoesBack ps [] rows next = next ≡ None
GoesBack {S} ps (t ∷ turns) rows next = Either t.required (GoesBack ps turns (before t rows) next) ((p : Path S) × (next ≡ Some p) × IsEntered true ps t.cell t.state (before t rows) turns p)
