-- The terms of a root in a box: which are refuted there, and what the others tell.
use Rattle.std.specs.Prelude.{◌≡◌, ◌⊎◌, ℕ, ◌<◌, ◌+◌, min, List, [], ◌∷◌, ◌++◌, map, length, get_or, All, Option, Some}
use Rattle.av_perm.specs.Members.{In}
use Rattle.av_name.specs.declared.constraints.Known.{Known}
use Rattle.av_name.specs.declared.constraints.Known.TheVariants.{Outside}
use Rattle.av_split.specs.declared.cells.Cell.{Cell}
use Rattle.av_split.specs.declared.rows.Mark.{Mark}
use Rattle.av_split.specs.declared.steps.Step.{Step}
use Rattle.av_split.specs.declared.steps.Step.TheVariants.{Holds, Fails, Asks}
use Rattle.av_split.specs.Cells.{IsCellOf, or_first}
use Rattle.av_walk.specs.declared.sifting.Sifted.{Sifted}
use Rattle.av_walk.specs.Walk.{Literal, term_known, inside_count, next_of_terms}

-- the cell of a literal
abbrev pub literal_cell : Literal Cell → Option Cell
literal_cell l = Some l.question

-- the cells of a term are of the rows
abbrev pub AreCellsOfTerm : List (List Mark) → List (Literal Cell) → Type 0
AreCellsOfTerm rows t = (l : Literal Cell) → In l t → IsCellOf rows l.question

-- those of each term are
abbrev pub AreCellsOfTerms : List (List Mark) → List (List (Literal Cell)) → Type 0
AreCellsOfTerms rows ts = (t : List (Literal Cell)) → In t ts → AreCellsOfTerm rows t

-- the terms with these numbers
abbrev pub picked : List (List (Literal Cell)) → List ℕ → List (List (Literal Cell))
picked ts numbers = map (λ i. get_or ts i []) numbers

-- some of the terms, without others that are refuted
abbrev pub AreAlive : (List (Literal Cell) → Known) → List (List (Literal Cell)) → List (List (Literal Cell)) → Type 0
AreAlive f [] us = us ≡ []
AreAlive f (t ∷ ts) us = ((vs : List (List (Literal Cell))) × (us ≡ t ∷ vs) × AreAlive f ts vs) ⊎ ((f t ≡ Outside) × AreAlive f ts us)

-- what was found of the terms with these numbers, by what is known of cells
pub record IsSifted (f : Cell → Known) (ts : List (List (Literal Cell))) (numbers : List ℕ) (s : Sifted) : Type 0 where
  pub inside : s.inside ≡ min 2 (inside_count f (picked ts numbers))
  pub next : s.next ≡ next_of_terms f (picked ts numbers)
  pub live : AreAlive (term_known f) (picked ts numbers) (picked ts s.live.items)
  pub within : All (λ i. i < length ts) s.live.items

-- one more term
abbrev pub IsMore : Sifted → ℕ → Step → Sifted → Type 0
IsMore old i Holds new = (new.inside ≡ min 2 (old.inside + 1)) × (new.next ≡ old.next) × (new.live.items ≡ old.live.items ++ i ∷ [])
IsMore old i Fails new = (new.inside ≡ old.inside) × (new.next ≡ old.next) × (new.live.items ≡ old.live.items)
IsMore old i (Asks cell) new = (new.inside ≡ old.inside) × (new.next ≡ or_first old.next cell) × (new.live.items ≡ old.live.items ++ i ∷ [])
