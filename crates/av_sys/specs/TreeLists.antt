-- The list of the trees of an equation of one size, in the order of ranks.
use Rattle.std.specs.Prelude.{ℕ, zero, suc, cond, ◌==◌, List, [], ◌∷◌, map, length, flat_map, Option, Some, None}
use Rattle.av_perm.specs.Lists.{size_lists, counting}
use Rattle.av_sys.specs.declared.terms.Term.{Term}
use Rattle.av_sys.specs.declared.terms.Term.TheVariants.{Point, Node}
use Rattle.av_sys.specs.declared.terms.System.{System}
use Rattle.av_sys.specs.Terms.{terms_at, term_at}
use Rattle.av_sys.specs.Trees.{Tree, Trees, none, more, value}

-- the lists of one tree of each list in turn; the first is the most significant
unfoldable pub tree_lists : List (List Tree) → List Trees
tree_lists [] = none ∷ []
tree_lists (ts ∷ rest) = flat_map (λ T. map (more T.term T.subtrees) (tree_lists rest)) ts

-- the lists that `below` gives for each child and its size
abbrev pub at_sizes : (ℕ → ℕ → List Tree) → List ℕ → List ℕ → List (List Tree)
at_sizes below [] sizes = []
at_sizes below (c ∷ children) [] = []
at_sizes below (c ∷ children) (n ∷ sizes) = below c n ∷ at_sizes below children sizes

-- the trees of size n of term number t, where `below` gives the trees of the children: their sizes in lexicographic order, and
-- for each the lists of their trees
abbrev pub trees_of_term : (ℕ → ℕ → List Tree) → ℕ → ℕ → Option Term → List Tree
trees_of_term below n t None = []
trees_of_term below n t (Some Point) = cond (n == 1) (record { term = t; subtrees = none } ∷ []) []
trees_of_term below n t (Some (Node root children)) =
    flat_map (λ ns. map (λ ts. record { term = t; subtrees = ts }) (tree_lists (at_sizes below children ns)))
    (size_lists (length children) n)

-- the trees of equation u of size n, which is at most d, its terms in order
unfoldable pub trees_up_to : System → ℕ → ℕ → ℕ → List Tree
trees_up_to S zero u n = []
trees_up_to S (suc d) u n =
    flat_map (λ t. trees_of_term (trees_up_to S d) n t (term_at S u t)) (counting 0 (length (terms_at S u)))

-- the trees of equation u of size n
unfoldable pub trees : System → ℕ → ℕ → List Tree
trees S u n = trees_up_to S n u n

-- the values of the trees of an equation of size n, in the order of ranks, and how many trees these are
unfoldable pub members_at : System → ℕ → ℕ → List (List ℕ)
members_at S u n = map (value S u) (trees S u n)

unfoldable pub count_at : System → ℕ → ℕ → ℕ
count_at S u n = length (trees S u n)

-- the same of equation 0
unfoldable pub members : System → ℕ → List (List ℕ)
members S n = members_at S 0 n

unfoldable pub count_of : System → ℕ → ℕ
count_of S n = count_at S 0 n
