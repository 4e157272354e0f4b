-- The law of decomposition trees.
use Rattle.std.specs.Prelude.{◌≡◌, ℕ, List}
use Rattle.av_perm.specs.Relations.{IsWord}
use Rattle.av_decomp.specs.RootTrees.{RootTree}
use Rattle.av_decomp.specs.Trees.{IsTreeOf, dec}

-- each word has a decomposition tree, which is the one computed, and no other
pub record HasTree (σ : List ℕ) : Type 0 where
  pub tree : IsTreeOf σ (dec σ)
  pub only : (t : RootTree) → IsTreeOf σ t → t ≡ dec σ

-- every word has exactly one decomposition tree
abbrev pub TreeLaw : Type 0
TreeLaw = (σ : List ℕ) → IsWord σ → HasTree σ
