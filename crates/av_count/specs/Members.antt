-- The lists of subtrees for children and a size, and the words of a term.
use Rattle.std.specs.Prelude.{ℕ, ◌-◌, ◌==◌, List, [], ◌∷◌, map, length, flat_map, drop, cond, Option, Some, None}
use Rattle.av_perm.specs.Lists.{size_lists}
use Rattle.av_perm.specs.Inflate.{inflate}
use Rattle.av_sys.specs.declared.terms.Term.{Term}
use Rattle.av_sys.specs.declared.terms.Term.TheVariants.{Point, Node}
use Rattle.av_sys.specs.declared.terms.System.{System}
use Rattle.av_sys.specs.Terms.{term_at, children_of}
use Rattle.av_sys.specs.Trees.{Trees}
use Rattle.av_sys.specs.TreeLists.{trees, tree_lists, at_sizes, members_at, count_at}
use Rattle.av_count.specs.Choices.{choice_lists, ways}

-- the lists of trees for children whose sizes sum to n
unfoldable pub subtree_lists : System → List ℕ → ℕ → List Trees
subtree_lists S children n =
    flat_map (λ ns. tree_lists (at_sizes (trees S) children ns)) (size_lists (length children) n)

-- how many there are for the children of a term from one child on
unfoldable pub tail_at : System → ℕ → ℕ → ℕ → ℕ → ℕ
tail_at S u t child n = length (subtree_lists S (drop (child - 1) (children_of (term_at S u t))) n)

-- the values that come from one term, by the members of its children
abbrev pub term_words : System → ℕ → Option Term → List (List ℕ)
term_words S n None = []
term_words S n (Some Point) = cond (n == 1) ((1 ∷ []) ∷ []) []
term_words S n (Some (Node root children)) = map (inflate root) (choice_lists (members_at S) children n)

-- how many trees have a term for their root
abbrev pub term_ways : System → ℕ → Option Term → ℕ
term_ways S n None = 0
term_ways S n (Some Point) = cond (n == 1) 1 0
term_ways S n (Some (Node root children)) = ways (count_at S) children n
