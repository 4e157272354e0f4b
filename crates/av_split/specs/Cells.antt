-- Questions by number: a table of children by patterns, and what is known of each of its cells.
use Rattle.std.specs.Prelude.{◌≡◌, ℕ, ◌<◌, Bool, true, false, List, [], ◌∷◌, map, length, get_or, Option, Some, None}
use Rattle.av_perm.specs.Members.{In}
use Rattle.av_perm.specs.Contain.{contains}
use Rattle.av_perm.specs.Lists.{Pointwise}
use Rattle.av_name.specs.declared.constraints.Known.{Known}
use Rattle.av_name.specs.declared.constraints.Known.TheVariants.{Inside, Outside, Open}
use Rattle.av_split.specs.declared.cells.Cell.{Cell}
use Rattle.av_split.specs.declared.rows.Mark.{Mark}
use Rattle.av_split.specs.Marks.{unmarked}
use Rattle.av_split.specs.declared.steps.Step.{Step}
use Rattle.av_split.specs.declared.steps.Step.TheVariants.{Holds, Fails, Asks}
use Rattle.av_split.specs.Split.{Demand, all_of, first_open}
use Rattle.av_split.specs.Boxes.{Question}

-- the question of a cell
abbrev pub question_at : List (List ℕ) → Cell → Question
question_at ps cell = record { child = cell.child; word = get_or ps cell.pattern [] }

-- the cell, of `k` children and these patterns, is that of the question
pub record IsQuestionOf (k : ℕ) (ps : List (List ℕ)) (cell : Cell) (q : Question) : Type 0 where
  pub child : cell.child < k
  pub pattern : cell.pattern < length ps
  pub question : question_at ps cell ≡ q

-- cells of questions
abbrev pub AreQuestionsOf : ℕ → List (List ℕ) → List Cell → List Question → Type 0
AreQuestionsOf k ps = Pointwise (IsQuestionOf k ps)

-- a demand with cells for its questions
pub record IsDemandOf (k : ℕ) (ps : List (List ℕ)) (d : Demand Cell) (e : Demand Question) : Type 0 where
  pub required : d.required ≡ e.required
  pub embeddings : Pointwise (AreQuestionsOf k ps) d.embeddings e.embeddings

-- demands with cells for their questions
abbrev pub AreDemandsOf : ℕ → List (List ℕ) → List (Demand Cell) → List (Demand Question) → Type 0
AreDemandsOf k ps = Pointwise (IsDemandOf k ps)

-- which of the patterns contain which
abbrev pub containments_of : List (List ℕ) → List (List Bool)
containments_of ps = map (λ w. map (contains w) ps) ps

-- what is known of a cell
abbrev pub known_at : List (List Mark) → Cell → Known
known_at rows cell = (get_or (get_or rows cell.child []) cell.pattern unmarked).known

-- the first open cell of the first open embedding of a demand
abbrev pub first_cell : List (List Mark) → Demand Cell → Option Cell
first_cell rows d = first_open (all_of (known_at rows)) (λ (m : List Cell). first_open (known_at rows) (λ (cell : Cell). Some cell) m) d.embeddings

-- the cell is one of the rows
pub record IsCellOf (rows : List (List Mark)) (cell : Cell) : Type 0 where
  pub child : cell.child < length rows
  pub pattern : cell.pattern < length (get_or rows cell.child [])

-- each cell of an embedding
abbrev pub AreCellsOf : List (List Mark) → List Cell → Type 0
AreCellsOf rows cells = (cell : Cell) → In cell cells → IsCellOf rows cell

-- each cell of a demand
abbrev pub HasCellsOf : List (List Mark) → Demand Cell → Type 0
HasCellsOf rows d = (cells : List Cell) → In cells d.embeddings → AreCellsOf rows cells

-- each cell of some demands
abbrev pub HaveCellsOf : List (List Mark) → List (Demand Cell) → Type 0
HaveCellsOf rows ds = (d : Demand Cell) → In d ds → HasCellsOf rows d

-- what is known, and the first open cell
abbrev pub IsStep : Step → Known → Option Cell → Type 0
IsStep Holds k o = k ≡ Inside
IsStep Fails k o = k ≡ Outside
IsStep (Asks cell) k o = (k ≡ Open) × (o ≡ Some cell)

-- the first of some demands, none of which is left, or it is broken or open, and then at this cell
abbrev pub IsFirst : Step → (Demand Cell → Known) → (Demand Cell → Option Cell) → List (Demand Cell) → Type 0
IsFirst Holds f g ds = ds ≡ []
IsFirst Fails f g [] = ⊥
IsFirst Fails f g (d ∷ ds) = f d ≡ Outside
IsFirst (Asks cell) f g [] = ⊥
IsFirst (Asks cell) f g (d ∷ ds) = (f d ≡ Open) × (g d ≡ Some cell)

-- no demand of the kind is broken
abbrev pub AreSafe : Option Bool → (Demand Cell → Known) → List (Demand Cell) → Type 0
AreSafe last f ds = (d : Demand Cell) → In d ds → last ≡ Some d.required → f d ≡ Outside → ⊥

-- the first of two, where there is one
abbrev pub or_first : {X : Type 0} → Option X → X → Option X
or_first None x = Some x
or_first (Some first) x = Some first

-- the same of two of which there may be none
abbrev pub or_else : {X : Type 0} → Option X → Option X → Option X
or_else None o = o
or_else (Some x) o = Some x

-- what items that were gone through tell together where none fails, by the first open cell or question
abbrev pub known_so : {X : Type 0} → Option X → Known
known_so None = Inside
known_so (Some x) = Open

-- the step to the first open cell, or else another
abbrev pub step_or : Option Cell → Step → Step
step_or None step = step
step_or (Some cell) step = Asks cell

-- the step, or the opposite
abbrev pub turned_step : Bool → Step → Step
turned_step true step = step
turned_step false Holds = Fails
turned_step false Fails = Holds
turned_step false (Asks cell) = Asks cell
