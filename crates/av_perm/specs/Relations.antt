-- Words, patterns, classes, inflations, intervals and simple words, as relations in the words of the textbook.
-- Places are counted from 0 in this file, but for those of `OccursAt`, which are counted from 1.
use Rattle.std.specs.Prelude.{◌≡◌, ℕ, ◌+◌, ◌<◌, ◌≤◌, ◌≢◌, ◌↔◌, List, [], ◌∷◌, length, get_or}
use Rattle.av_perm.specs.Members.{In}
use Rattle.av_perm.specs.Word.{entry}
pub use Rattle.av_perm.specs.Inflate.{block, joined, points_below, raised, inflate}
pub use Rattle.av_perm.specs.Pattern.{smaller, pattern_of}

-- the entry of `w` at place `s`
abbrev pub at : List ℕ → ℕ → ℕ
at w s = get_or w s 0

-- the numbers 1 to its length, each once; the empty list too
pub record IsOneToLength (w : List ℕ) : Type 0 where
  pub within : (s : ℕ) → s < length w → (1 ≤ at w s) × (at w s ≤ length w)
  pub apart : (s t : ℕ) → s < t → t < length w → at w s ≢ at w t

-- a word, which is a permutation in one-line notation: the numbers 1 to n, each once, for some n of at least 1
pub record IsWord (w : List ℕ) : Type 0 where
  pub numbers : IsOneToLength w
  pub filled : 1 ≤ length w

-- each of a list is one
abbrev pub AreWords : List (List ℕ) → Type 0
AreWords ws = (i : ℕ) → i < length ws → IsWord (get_or ws i [])

-- `p` is an occurrence of `τ` in `σ`: a strictly increasing list of places of `σ`, one for each place of `τ`, whose entries
-- lie in the same relative order
pub record IsOccurrence (σ τ p : List ℕ) : Type 0 where
  pub count : length p ≡ length τ
  pub placed : (s : ℕ) → s < length p → at p s < length σ
  pub rising : (s t : ℕ) → s < t → t < length p → at p s < at p t
  pub alike : (s t : ℕ) → s < length τ → t < length τ → (at τ s < at τ t) ↔ (at σ (at p s) < at σ (at p t))

-- the same with the places counted from 1, as answers give them
pub record OccursAt (σ τ p : List ℕ) : Type 0 where
  pub count : length p ≡ length τ
  pub placed : (s : ℕ) → s < length p → (1 ≤ at p s) × (at p s ≤ length σ)
  pub rising : (s t : ℕ) → s < t → t < length p → at p s < at p t
  pub alike : (s t : ℕ) → s < length τ → t < length τ → (at τ s < at τ t) ↔ (entry σ (at p s) < entry σ (at p t))

-- `σ` contains the pattern `τ`
abbrev pub Contains : List ℕ → List ℕ → Type 0
Contains σ τ = (p : List ℕ) × IsOccurrence σ τ p

-- `σ` avoids the pattern `τ`
abbrev pub Avoids : List ℕ → List ℕ → Type 0
Avoids σ τ = Contains σ τ → ⊥

-- a word of the class Av(basis)
pub record InClass (basis : List (List ℕ)) (σ : List ℕ) : Type 0 where
  pub word : IsWord σ
  pub avoids : (τ : List ℕ) → In τ basis → Avoids σ τ

-- a word of Av(basis, n)
pub record InClassAt (basis : List (List ℕ)) (n : ℕ) (σ : List ℕ) : Type 0 where
  pub member : InClass basis σ
  pub long : length σ ≡ n

-- a word of the class with required words, Cl(basis, required): one of Av(basis) that contains each of them
pub record InClassWith (basis required : List (List ℕ)) (σ : List ℕ) : Type 0 where
  pub member : InClass basis σ
  pub contains : (τ : List ℕ) → In τ required → Contains σ τ

-- one of length n
pub record InClassWithAt (basis required : List (List ℕ)) (n : ℕ) (σ : List ℕ) : Type 0 where
  pub member : InClassWith basis required σ
  pub long : length σ ≡ n

-- two lists of numbers lie in the same relative order
pub record SameOrder (xs ys : List ℕ) : Type 0 where
  pub count : length xs ≡ length ys
  pub alike : (s t : ℕ) → s < length xs → t < length xs → (at xs s < at xs t) ↔ (at ys s < at ys t)

-- one word for each entry of `π`
pub record AreBlocks (π : List ℕ) (αs : List (List ℕ)) : Type 0 where
  pub count : length αs ≡ length π
  pub words : (i : ℕ) → i < length π → IsOneToLength (block αs i)
  pub filled : (i : ℕ) → i < length π → 1 ≤ length (block αs i)

-- the `m` places from `i` on have consecutive numbers for entries: all of them are among `v`, .., `v + m - 1`;
-- since they differ, they are exactly these
abbrev pub IsInterval : List ℕ → ℕ → ℕ → Type 0
IsInterval σ i m = (i + m ≤ length σ) × ((v : ℕ) × ((s : ℕ) → i ≤ s → s < i + m → (v ≤ at σ s) × (at σ s < v + m)))

-- at least four places, and no interval of 2 to n - 1 places
pub record IsSimple (σ : List ℕ) : Type 0 where
  pub numbers : IsOneToLength σ
  pub long : 4 ≤ length σ
  pub bare : (i m : ℕ) → 2 ≤ m → m < length σ → IsInterval σ i m → ⊥

-- the root of a sum, 12[α, β]
abbrev pub sum_root : List ℕ
sum_root = 1 ∷ (2 ∷ [])

-- the root of a skew sum, 21[α, β]
abbrev pub skew_root : List ℕ
skew_root = 2 ∷ (1 ∷ [])

-- not an inflation of the root
abbrev pub IsNoInflationOf : List ℕ → List ℕ → Type 0
IsNoInflationOf π σ = (αs : List (List ℕ)) → AreBlocks π αs → inflate π αs ≡ σ → ⊥

-- not 12[α, β] for any words α and β
abbrev pub IsSumIndecomposable : List ℕ → Type 0
IsSumIndecomposable = IsNoInflationOf sum_root

-- and not 21[α, β] for any
abbrev pub IsSkewIndecomposable : List ℕ → Type 0
IsSkewIndecomposable = IsNoInflationOf skew_root
