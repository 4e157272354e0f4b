-- What a round of the marking does.
use Rattle.std.specs.Prelude.{◌≡◌, ◌<◌, Bool, true, false, List, [], ◌∷◌, count_by}
use Rattle.av_sys.specs.declared.terms.Equation.{Equation}
use Rattle.av_build.specs.Alive.{mark_next, alive_marks}

-- two lists of marks of one length, the second with each mark of the first
abbrev pub Below : List Bool → List Bool → Type 0
Below [] [] = Unit {0}
Below [] (y ∷ ys) = ⊥
Below (x ∷ xs) [] = ⊥
Below (x ∷ xs) (y ∷ ys) = (x ≡ true → y ≡ true) × Below xs ys

-- only equations that are alive are marked
abbrev pub IsSound : List Equation → List Bool → Type 0
IsSound equations marks = Below marks (alive_marks equations)

-- a round leaves the marks sound; it makes one at least where it says that it has changed something, and where it has not,
-- each equation with a term whose children are all marked is marked
pub record IsRound (equations : List Equation) (old new : List Bool) (changed : Bool) : Type 0 where
  pub sound : IsSound equations new
  pub more : changed ≡ true → count_by (λ mark. mark) old < count_by (λ mark. mark) new
  pub closed : changed ≡ false → Below (mark_next equations new) new
