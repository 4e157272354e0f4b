-- The decomposition of a word by its root.
use Rattle.std.specs.Prelude.{◌≡◌, ℕ, ◌≤◌, ◌⊎◌, List, length}
use Rattle.av_perm.specs.Relations.{IsWord, AreBlocks, block, inflate, IsSimple, sum_root, skew_root, IsSumIndecomposable, IsSkewIndecomposable}

-- the root is 12, 21 or simple; under 12 the first block is sum-indecomposable, under 21 skew-indecomposable
abbrev pub IsRoot : List ℕ → List ℕ → Type 0
IsRoot π α = ((π ≡ sum_root) × IsSumIndecomposable α) ⊎ (((π ≡ skew_root) × IsSkewIndecomposable α) ⊎ IsSimple π)

-- `σ` is the inflation of the root `π` by the blocks
pub record Decomposes (σ π : List ℕ) (αs : List (List ℕ)) : Type 0 where
  pub blocks : AreBlocks π αs
  pub value : inflate π αs ≡ σ
  pub root : IsRoot π (block αs 0)

-- a word has at most one root and list of blocks
abbrev pub OneDecomposition : Type 0
OneDecomposition = (σ π π' : List ℕ) (αs αs' : List (List ℕ)) → IsWord σ → Decomposes σ π αs → Decomposes σ π' αs' → (π ≡ π') × (αs ≡ αs')

-- a word of length at least 2 has one
abbrev pub SomeDecomposition : Type 0
SomeDecomposition = (σ : List ℕ) → IsWord σ → 2 ≤ length σ → (π : List ℕ) × (αs : List (List ℕ)) × Decomposes σ π αs
