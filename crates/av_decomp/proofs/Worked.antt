-- Worked values of the definitions, by computation.
use Rattle.std.proofs.Common.{◌≡◌, ℕ, List, [], ◌∷◌, refl, Some}
use Rattle.av_perm.specs.Lists.{size_lists}
use Rattle.av_perm.specs.Parts.{parts}
use Rattle.av_perm.specs.Simple.{is_simple, is_sum_indecomposable, is_skew_indecomposable}
use Rattle.av_decomp.specs.RootTrees.{RootTree, point, as_trees}
use Rattle.av_decomp.specs.Trees.{value, dec, tree_up_to}

-- a root with the trees of its blocks
abbrev node : List ℕ → List RootTree → RootTree
node π ts = record { root = Some π; blocks = as_trees ts }

-- the decomposition tree of 213 is 12[21[1, 1], 1]
dec_213 : dec (2 ∷ 1 ∷ 3 ∷ []) ≡ node (1 ∷ 2 ∷ []) (node (2 ∷ 1 ∷ []) (point ∷ point ∷ []) ∷ point ∷ [])
unfolding size_lists parts is_simple is_sum_indecomposable is_skew_indecomposable tree_up_to dec
dec_213 = refl

-- that of 261453 is 2413[1, 1, 1, 21[12[1, 1], 1]]
abbrev tree_261453 : RootTree
tree_261453 = node (2 ∷ 4 ∷ 1 ∷ 3 ∷ []) (point ∷ point ∷ point ∷ node (2 ∷ 1 ∷ []) (node (1 ∷ 2 ∷ []) (point ∷ point ∷ []) ∷ point ∷ []) ∷ [])

-- the tree of 261453, as computed
dec_261453 : dec (2 ∷ 6 ∷ 1 ∷ 4 ∷ 5 ∷ 3 ∷ []) ≡ tree_261453
unfolding size_lists parts is_simple is_sum_indecomposable is_skew_indecomposable tree_up_to dec
dec_261453 = refl

-- which stands for the word
value_261453 : value tree_261453 ≡ 2 ∷ 6 ∷ 1 ∷ 4 ∷ 5 ∷ 3 ∷ []
value_261453 = refl
