-- The first simple word that is left of a simple word without one point or two. Places are counted from 0.
use Rattle.std.specs.Prelude.{◌≡◌, ℕ, ◌<◌, ◌⊎◌, List}
use Rattle.av_interval.specs.Points.{pattern_on, but, but_two}
use Rattle.av_interval.specs.Laws.{LeavesSimple, PairLeavesSimple}

-- the place is the least that leaves a simple pattern, and τ is what is left without it
pub record IsLeftWithout (σ τ : List ℕ) (v : ℕ) : Type 0 where
  pub simple : LeavesSimple σ v
  pub least : (k : ℕ) → k < v → LeavesSimple σ k → ⊥
  pub left : τ ≡ pattern_on σ (but v)

-- there is such a place
abbrev pub IsWithoutFirstPoint : List ℕ → List ℕ → Type 0
IsWithoutFirstPoint σ τ = (v : ℕ) × IsLeftWithout σ τ v

-- the pair k, t comes before the pair v, u
abbrev pub PairBefore : ℕ → ℕ → ℕ → ℕ → Type 0
PairBefore k t v u = (k < v) ⊎ ((k ≡ v) × (t < u))

-- no single place leaves a simple pattern; the pair is the lexicographically least that does, and τ is what is left without it
pub record IsLeftWithoutPair (σ τ : List ℕ) (v u : ℕ) : Type 0 where
  pub no_place : (k : ℕ) → LeavesSimple σ k → ⊥
  pub simple : PairLeavesSimple σ v u
  pub least : (k t : ℕ) → PairBefore k t v u → PairLeavesSimple σ k t → ⊥
  pub left : τ ≡ pattern_on σ (but_two v u)

-- there is such a pair
abbrev pub IsWithoutFirstPair : List ℕ → List ℕ → Type 0
IsWithoutFirstPair σ τ = (v : ℕ) × (u : ℕ) × IsLeftWithoutPair σ τ v u

-- τ is left of σ without the first point or, where there is none, without the first pair
abbrev pub IsFirstSmaller : List ℕ → List ℕ → Type 0
IsFirstSmaller σ τ = IsWithoutFirstPoint σ τ ⊎ IsWithoutFirstPair σ τ
