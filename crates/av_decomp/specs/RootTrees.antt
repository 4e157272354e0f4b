-- Trees of roots.
use Rattle.std.specs.Prelude.{◌≡◌, ℕ, zero, suc, ◌+◌, ◌≤◌, List, [], ◌∷◌, length, Option, Some, None, refl}
use Rattle.std.proofs.Common.{arith, ap, ◌∙◌}
use Rattle.std.specs.Coded.{Coded, code_by, coded_list, coded_ℕ}
use denote.Param.Weighed.{most}

-- a list of trees: none, or one tree and then others. A tree has a root and the trees of its blocks; a single point has
-- no root
pub data RootTrees : Type 0 where
  none : RootTrees
  more : (root : Option (List ℕ)) → (blocks : RootTrees) → (others : RootTrees) → RootTrees

-- one tree
pub record RootTree : Type 0 where
  pub root : Option (List ℕ)
  pub blocks : RootTrees

-- a single point
abbrev pub point : RootTree
point = record { root = None; blocks = none }

-- trees one after another, and back
abbrev pub as_trees : List RootTree → RootTrees
as_trees [] = none
as_trees (t ∷ ts) = more t.root t.blocks (as_trees ts)

-- the trees of a list one by one
abbrev pub trees_of : RootTrees → List RootTree
trees_of none = []
trees_of (more root blocks others) = record { root = root; blocks = blocks } ∷ trees_of others

-- joined and taken apart they are as before
pub trees_of_as_trees : (ts : List RootTree) → trees_of (as_trees ts) ≡ ts
trees_of_as_trees [] = refl
trees_of_as_trees (t ∷ ts) = ap (λ (us : List RootTree). t ∷ us) (trees_of_as_trees ts)

-- how many trees there are, at all levels
abbrev pub all_of : RootTrees → ℕ
all_of none = 0
all_of (more root blocks others) = suc (all_of blocks + all_of others)

-- of a tree: itself and those below it
abbrev pub nodes : RootTree → ℕ
nodes t = suc (all_of t.blocks)

-- no tree has more nodes than all together
pub nodes_most : (kids : List RootTree) → most (λ k. nodes k + 1) kids ≤ all_of (as_trees kids) + 1
nodes_most [] = omega arith
nodes_most (k ∷ ks) = omega (arith, nodes_most ks)

-- Trees as lists of lists of numbers: each tree is its root, behind a 1, or a 0 at a point, and then its blocks; the empty
-- list ends a list of trees.
abbrev root_written : Option (List ℕ) → List ℕ
root_written None = 0 ∷ []
root_written (Some root) = 1 ∷ root

-- a list of trees written before what follows
abbrev pub written : RootTrees → List (List ℕ) → List (List ℕ)
written none rest = [] ∷ rest
written (more root blocks others) rest = root_written root ∷ written blocks (written others rest)

-- a root read back
abbrev root_read : ℕ → List ℕ → Option (List ℕ)
root_read zero xs = None
root_read (suc z) xs = Some xs

-- trees that were read, and what is left
pub record Got : Type 0 where
  pub trees : RootTrees
  pub rest : List (List ℕ)

-- a tree of a root, its blocks and the trees that follow
abbrev pub node_of : Option (List ℕ) → Got → (List (List ℕ) → Got) → Got
node_of root b others = record { trees = more root b.trees (others b.rest).trees; rest = (others b.rest).rest }

-- read back, by at most d steps
abbrev pub read_back : ℕ → List (List ℕ) → Got
read_back zero xs = record { trees = none; rest = xs }
read_back (suc d) [] = record { trees = none; rest = [] }
read_back (suc d) ([] ∷ xs) = record { trees = none; rest = xs }
read_back (suc d) ((z ∷ root) ∷ xs) = node_of (root_read z root) (read_back d xs) (read_back d)

-- what was written is read back
reads : (r : RootTrees) (d : ℕ) (rest : List (List ℕ)) → suc (all_of r) ≤ d → read_back d (written r rest) ≡ record { trees = r; rest = rest }
reads none zero rest h = absurd (omega arith)
reads none (suc d) rest h = refl
reads (more root blocks others) zero rest h = absurd (omega arith)
reads (more None blocks others) (suc d) rest h =
    ap (λ (b : Got). node_of None b (read_back d)) (reads blocks d (written others rest) (omega arith))
    ∙ ap (λ (b : Got). record { trees = more None blocks b.trees; rest = b.rest }) (reads others d rest (omega arith))
reads (more (Some root) blocks others) (suc d) rest h =
    ap (λ (b : Got). node_of (Some root) b (read_back d)) (reads blocks d (written others rest) (omega arith))
    ∙ ap (λ (b : Got). record { trees = more (Some root) blocks b.trees; rest = b.rest }) (reads others d rest (omega arith))

-- what is written is longer than the trees are many
length-written : (r : RootTrees) (rest : List (List ℕ)) → suc (all_of r + length rest) ≤ length (written r rest)
length-written none rest = omega arith
length-written (more root blocks others) rest = omega (arith, length-written blocks (written others rest), length-written others rest)

-- the trees that were written
abbrev pub of_written : List (List ℕ) → RootTrees
of_written xs = (read_back (length xs) xs).trees

-- trees that were written are read back
pub reads_all : (r : RootTrees) → of_written (written r []) ≡ r
reads_all r = ap (λ (g : Got). g.trees) (reads r (length (written r [])) [] (omega (arith, length-written r [])))

-- the first tree of a list
abbrev pub one_of : RootTrees → RootTree
one_of none = point
one_of (more root blocks others) = record { root = root; blocks = blocks }

-- the code of a tree
abbrev pub tree_code : Coded RootTree
tree_code = code_by (List (List ℕ)) (coded_list (coded_list coded_ℕ)) (λ t. written (more t.root t.blocks none) [])
    (λ xs. one_of (of_written xs))
    (λ t. ap one_of (reads_all (more t.root t.blocks none)))
