-- What a search of the simple words of a class stands for, and what it finds.
use Rattle.std.specs.Prelude.{◌≡◌, ℕ, suc, ◌-◌, ◌≤◌, List, [], length, get_or, map, Option, Some, None}
use Rattle.av_perm.specs.declared.limits.TheConstants.{MAX_ROOT_LENGTH}
use Rattle.av_perm.specs.Lists.{counting}
use Rattle.av_perm.specs.Gap.{simples, gap, simples_below}
use Rattle.av_simple.specs.declared.limits.TheConstants.{LEAST_LIMIT}
use Rattle.av_simple.specs.declared.outcome.Outcome.{Outcome}
use Rattle.av_simple.specs.declared.outcome.Outcome.TheVariants as outcome

-- the class, by its basis, and the limit of the lengths
pub record Searched : Type 0 where
  pub basis : List (List ℕ)
  pub limit : ℕ

-- the class's gap, where there is one within the limit
abbrev pub gap_of : Searched → Option ℕ
gap_of s = gap s.basis s.limit

-- what is found where the gap is this
abbrev pub outcome_by : Option ℕ → Outcome
outcome_by None = outcome.Unsettled
outcome_by (Some g) = outcome.Gap g

-- what is found
abbrev pub outcome_of : Searched → Outcome
outcome_of s = outcome_by (gap_of s)

-- the greatest length that is looked at: one above the gap, or the limit
abbrev pub last_by : ℕ → Option ℕ → ℕ
last_by limit None = limit
last_by limit (Some g) = suc g

abbrev pub last_of : Searched → ℕ
last_of s = last_by s.limit (gap_of s)

-- the simple words of the class of the lengths from 4 to last
abbrev pub levels_to : List (List ℕ) → ℕ → List (List (List ℕ))
levels_to basis last = map (simples basis) (counting 4 (last - 3))

-- there are at least two levels, of which the last two have no words
pub record EndsEmpty (levels : List (List (List ℕ))) : Type 0 where
  pub two : 2 ≤ length levels
  pub before : get_or levels (length levels - 2) [] ≡ []
  pub last : get_or levels (length levels - 1) [] ≡ []

-- all simple words of the class of length below the gap, in shortlex order
abbrev pub roots_by : List (List ℕ) → Option ℕ → List (List ℕ)
roots_by basis None = []
roots_by basis (Some g) = simples_below basis g

abbrev pub roots_of : Searched → List (List ℕ)
roots_of s = roots_by s.basis (gap_of s)

-- what was kept is what is to be found
pub record IsFound (s : Searched) (levels : List (List (List ℕ))) (found : Outcome) : Type 0 where
  pub low : LEAST_LIMIT ≤ s.limit
  pub high : s.limit ≤ MAX_ROOT_LENGTH
  pub found_is : found ≡ outcome_of s
  pub levels_are : levels ≡ levels_to s.basis (last_of s)
