-- What becomes of a box.
use Rattle.std.specs.Prelude.{◌≡◌, ℕ, ◌<◌, Bool, true, false, List, length, All, Option, Some, None}
use Rattle.av_name.specs.declared.constraints.Known.{Known}
use Rattle.av_split.specs.declared.cells.Cell.{Cell}
use Rattle.av_split.specs.Split.{Demand}
use Rattle.av_walk.specs.declared.looking.State.{State}
use Rattle.av_walk.specs.declared.looking.State.TheVariants as states
use Rattle.av_walk.specs.declared.sifting.Sifted.{Sifted}
use Rattle.av_walk.specs.declared.looking.Kind.{Kind}
use Rattle.av_walk.specs.declared.looking.Kind.TheVariants as kinds
use Rattle.av_walk.specs.declared.looking.Look.{Look}
use Rattle.av_walk.specs.declared.looking.Look.TheVariants as looks
use Rattle.av_walk.specs.Walk.{Literal, Ending, good, bare, twice, extra, Treatment, ends, splits, broken_cell, done_cell}
use Rattle.av_walk.specs.Sifts.{picked}
use Rattle.av_walk.specs.Paths.{treatment_at, IsKnownBy, IsOpenBy}

-- the ending of that kind
abbrev pub ending_of : Kind → Ending
ending_of kinds.Good = good
ending_of kinds.Bare = bare
ending_of kinds.Twice = twice
ending_of kinds.Extra = extra

-- the cut by a cell, or the end where there is none
abbrev pub cut_or : Option Cell → State → Kind → Look
cut_or None state kind = looks.Ends kind
cut_or (Some cell) state kind = looks.Cut cell state

-- where all demands are done, or else one is broken, by the number of terms inside and the first open question of a term
abbrev pub settled_cell : Bool → ℕ → Option Cell → Treatment Cell
settled_cell true n o = done_cell n o
settled_cell false n o = broken_cell n o

-- the look at such a box says so; a box that is cut has this state
abbrev pub LooksAt : Bool → ℕ → Option Cell → State → Look → Type 0
LooksAt done n o state (looks.Ends kind) = settled_cell done n o ≡ ends (ending_of kind)
LooksAt done n o state (looks.Cut cell cut) = (settled_cell done n o ≡ splits cell) × (cut ≡ state)

-- by what was found of the terms
abbrev pub Looks : Bool → ℕ → Sifted → Look → Type 0
Looks done n s look = LooksAt done n s.next (states.Settled done s.live) look

-- what becomes of a box, by what is known of cells
abbrev pub IsLook : (Cell → Known) → List (Demand Cell) → List (List (Literal Cell)) → Look → Type 0
IsLook f ds ts (looks.Ends kind) = treatment_at f ds ts ≡ ends (ending_of kind)
IsLook f ds ts (looks.Cut cell state) = (treatment_at f ds ts ≡ splits cell) × IsKnownBy f ds ts state × IsOpenBy f ds state

-- the numbers of all terms
pub record AreAll (ts : List (List (Literal Cell))) (numbers : List ℕ) : Type 0 where
  pub within : All (λ i. i < length ts) numbers
  pub all : picked ts numbers ≡ ts
