-- The word that a tree of roots stands for, and the decomposition tree of a word.
use Rattle.std.specs.Prelude.{◌≡◌, ℕ, zero, suc, ◌≤◌, List, [], ◌∷◌, map, length, Option, Some, None}
use Rattle.av_perm.specs.declared.limits.TheConstants.{MAX_LENGTH}
use Rattle.av_perm.specs.Relations.{IsWord, block, inflate}
use Rattle.av_perm.specs.Decompose.{IsRoot}
use Rattle.av_perm.specs.Parts.{Parts, parts}
use Rattle.av_decomp.specs.RootTrees.{RootTrees, none, more, RootTree, point, as_trees}

-- how many trees a list has
abbrev pub count : RootTrees → ℕ
count none = 0
count (more root blocks others) = suc (count others)

-- the word of a root and of the words of its blocks: a point's is the word 1
abbrev pub value_by : Option (List ℕ) → List (List ℕ) → List ℕ
value_by None αs = 1 ∷ []
value_by (Some root) αs = inflate root αs

-- the words of trees, each inflated all the way
abbrev pub values : RootTrees → List (List ℕ)
values none = []
values (more root blocks others) = value_by root (values blocks) ∷ values others

-- the word of one tree
abbrev pub value : RootTree → List ℕ
value t = value_by t.root (values t.blocks)

-- a root is a word of two or more entries, with as many blocks
pub record FitsRoot (root : List ℕ) (trees : RootTrees) : Type 0 where
  pub word : IsWord root
  pub two : 2 ≤ length root
  pub blocks : count trees ≡ length root

-- and a point has no blocks
abbrev pub FitsNode : Option (List ℕ) → RootTrees → Type 0
FitsNode None blocks = blocks ≡ none
FitsNode (Some root) blocks = FitsRoot root blocks

-- so at all levels of a list of trees
abbrev pub AreFormed : RootTrees → Type 0
AreFormed none = Unit {0}
AreFormed (more root blocks others) = FitsNode root blocks × AreFormed blocks × AreFormed others

-- so at each level; a tree has as many points as its word is long, from 1 to MAX_LENGTH
pub record IsFormed (t : RootTree) : Type 0 where
  pub top : FitsNode t.root t.blocks
  pub below : AreFormed t.blocks
  pub few : length (value t) ≤ MAX_LENGTH

-- and a number is that of its points
pub record Keeps (t : RootTree) (n : ℕ) : Type 0 where
  pub formed : IsFormed t
  pub points : n ≡ length (value t)

-- how long a root is, and 0 at a point
abbrev pub root_length : Option (List ℕ) → ℕ
root_length None = 0
root_length (Some root) = length root

-- a root has as many blocks as it is long, and is 12, 21 or simple; under 12 the first block is sum-indecomposable, under 21
-- skew-indecomposable
pub record IsCanonicalRoot (π : List ℕ) (trees : RootTrees) : Type 0 where
  pub blocks : count trees ≡ length π
  pub root : IsRoot π (block (values trees) 0)

-- and a point has no blocks
abbrev pub IsCanonicalNode : Option (List ℕ) → RootTrees → Type 0
IsCanonicalNode None blocks = blocks ≡ none
IsCanonicalNode (Some root) blocks = IsCanonicalRoot root blocks

-- so at all levels of a list of trees
abbrev pub AreCanonicalNodes : RootTrees → Type 0
AreCanonicalNodes none = Unit {0}
AreCanonicalNodes (more root blocks others) = IsCanonicalNode root blocks × AreCanonicalNodes blocks × AreCanonicalNodes others

-- the decomposition tree of a word: it stands for the word, and the roots at all levels are such
pub record IsTreeOf (σ : List ℕ) (t : RootTree) : Type 0 where
  pub word : value t ≡ σ
  pub top : IsCanonicalNode t.root t.blocks
  pub below : AreCanonicalNodes t.blocks

-- computed: the root and the blocks of the word, and the trees of the blocks
abbrev pub tree_by : Option Parts → (List ℕ → RootTree) → RootTree
tree_by None deeper = point
tree_by (Some p) deeper = record { root = Some p.root; blocks = as_trees (map deeper p.blocks) }

-- of words of length at most d
unfoldable pub tree_up_to : ℕ → List ℕ → RootTree
tree_up_to zero w = point
tree_up_to (suc d) w = tree_by (parts w) (λ α. tree_up_to d α)

-- the decomposition tree of a word
unfoldable pub dec : List ℕ → RootTree
dec w = tree_up_to (length w) w
