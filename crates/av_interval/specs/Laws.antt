-- The laws of simple words and of the points that can be taken from them. Places are counted from 0.
use Rattle.std.specs.Prelude.{◌≡◌, ◌≢◌, ℕ, suc, ◌+◌, ◌<◌, ◌≤◌, ◌⊎◌, Bool, false, List, [], ◌∷◌, length}
use Rattle.av_perm.specs.Relations.{IsWord, IsSimple, Contains, Avoids}
use Rattle.av_perm.specs.Gap.{simples}
use Rattle.av_perm.specs.Laws.{IsSimpleOf, IsGap}
use Rattle.av_interval.specs.Cuts.{IsSumCut, IsSkewCut}
use Rattle.av_interval.specs.Points.{pattern_on, add, but, but_two}

-- the two simple words of length 4
abbrev pub w2413 : List ℕ
w2413 = 2 ∷ 4 ∷ 1 ∷ 3 ∷ []

abbrev pub w3142 : List ℕ
w3142 = 3 ∷ 1 ∷ 4 ∷ 2 ∷ []

-- Separable words: a word of length at least 2 that avoids 2413 and 3142 is a sum or a skew sum.
abbrev pub SeparableLaw : Type 0
SeparableLaw = (σ : List ℕ) → IsWord σ → 2 ≤ length σ → Avoids σ w2413 → Avoids σ w3142 → (k : ℕ) × (IsSumCut σ k ⊎ IsSkewCut σ k)

-- Every simple word contains 2413 or 3142.
abbrev pub FourPointsLaw : Type 0
FourPointsLaw = (σ : List ℕ) → IsSimple σ → Contains σ w2413 ⊎ Contains σ w3142

-- v and u are two different places outside the set X, and the points of X together with theirs have a simple pattern
pub record MakeSimple (σ : List ℕ) (X : ℕ → Bool) (v u : ℕ) : Type 0 where
  pub first : v < length σ
  pub second : u < length σ
  pub first_new : X v ≡ false
  pub second_new : X u ≡ false
  pub differ : v ≢ u
  pub simple : IsSimple (pattern_on σ (add (add X v) u))

-- Where points of a simple word have a simple pattern and at least two points are left out, some two of these can be added
-- so that the pattern is simple again.
abbrev pub TwoMorePointsLaw : Type 0
TwoMorePointsLaw = (σ : List ℕ) → IsSimple σ → (X : ℕ → Bool) → IsSimple (pattern_on σ X) → length (pattern_on σ X) + 2 ≤ length σ
    → (v : ℕ) × (u : ℕ) × MakeSimple σ X v u

-- v is a place of the word, and without the point there a simple pattern is left
pub record LeavesSimple (σ : List ℕ) (v : ℕ) : Type 0 where
  pub within : v < length σ
  pub simple : IsSimple (pattern_on σ (but v))

-- v < u are places of the word, and without the two points there a simple pattern is left
pub record PairLeavesSimple (σ : List ℕ) (v u : ℕ) : Type 0 where
  pub order : v < u
  pub within : u < length σ
  pub simple : IsSimple (pattern_on σ (but_two v u))

-- From every simple word of length at least 6 one point or two can be taken away so that a simple pattern is left.
abbrev pub LeavesSimpleLaw : Type 0
LeavesSimpleLaw = (σ : List ℕ) → IsSimple σ → 6 ≤ length σ → ((v : ℕ) × LeavesSimple σ v) ⊎ ((v : ℕ) × (u : ℕ) × PairLeavesSimple σ v u)

-- τ is a simple word, σ contains it, and it is one or two shorter
pub record IsNearSimple (σ τ : List ℕ) : Type 0 where
  pub simple : IsSimple τ
  pub contained : Contains σ τ
  pub shorter : (length τ + 1 ≡ length σ) ⊎ (length τ + 2 ≡ length σ)

-- Every simple word of length n, from 6 on, contains a simple word of length n - 1 or n - 2.
abbrev pub SmallerSimplesLaw : Type 0
SmallerSimplesLaw = (σ : List ℕ) → IsSimple σ → 6 ≤ length σ → (τ : List ℕ) × IsNearSimple σ τ

-- The class has no simple word of length g or more: none is a simple word of it, and the list of each such length is empty.
pub record IsFinalGap (basis : List (List ℕ)) (g : ℕ) : Type 0 where
  pub none : (m : ℕ) → g ≤ m → (w : List ℕ) → IsSimpleOf basis m w → ⊥
  pub none_listed : (m : ℕ) → g ≤ m → simples basis m ≡ []

-- A class that has no simple word of length g and none of length g + 1, for some g of at least 4, has none of length g or
-- more. It is said of the words, and of the lists of them.
pub record TwoGapLaw : Type 0 where
  pub gap : (basis : List (List ℕ)) (g : ℕ) → IsGap basis g → IsFinalGap basis g
  pub listed : (basis : List (List ℕ)) (g : ℕ) → 4 ≤ g → simples basis g ≡ [] → simples basis (suc g) ≡ [] → (m : ℕ) → g ≤ m → simples basis m ≡ []
