-- What is left of the list of trees, once some vertices are placed.
use Rattle.std.specs.Prelude.{ℕ, ◌+◌, ◌*◌, List, [], ◌∷◌, ◌++◌, map, length, flat_map, drop}
use Rattle.av_perm.specs.Lists.{before_each}
use Rattle.av_sys.specs.declared.terms.System.{System}
use Rattle.av_sys.specs.Terms.{term_at, children_of}
use Rattle.av_sys.specs.Trees.{Tree, Trees, more}
use Rattle.av_sys.specs.TreeLists.{trees, count_at}
use Rattle.av_count.specs.Choices.{pairs}
use Rattle.av_list.specs.declared.vertex.Vertex.{Vertex}
use Rattle.av_list.specs.declared.vertex.Due.{Due}
use Rattle.av_list.specs.Vertices.{vertex, vertices_after, dues_below, due}
use Rattle.av_list.specs.Sizes.{sum_of}

-- the size of the tree that begins with the first vertex
abbrev pub first_size : List Vertex → ℕ
first_size [] = 0
first_size (x ∷ xs) = x.size

-- the size of a tree by the sizes of its subtrees: without subtrees it is 1
abbrev pub whole : List ℕ → ℕ
whole [] = 1
whole (n ∷ ns) = n + sum_of ns

-- lists one after another
abbrev pub in_turn : List (List Vertex) → List Vertex
in_turn [] = []
in_turn (b ∷ bs) = b ++ in_turn bs

-- the vertices of a tree of equation u with term number t, by those of its subtrees: its root comes first
abbrev pub preorder_over : ℕ → ℕ → List (List Vertex) → List Vertex
preorder_over u t blocks = vertex u (whole (map first_size blocks)) t (map first_size blocks) ∷ in_turn blocks

-- the vertices of each tree of a list in preorder
unfoldable pub preorders : System → List ℕ → Trees → List (List Vertex)
preorders S (u ∷ us) (more t subtrees others) =
    preorder_over u t (preorders S (children_of (term_at S u t)) subtrees) ∷ preorders S us others
preorders _ _ _ = []

-- the vertices of one tree
abbrev pub preorder : System → ℕ → Tree → List Vertex
preorder S u T = preorder_over u T.term (preorders S (children_of (term_at S u T.term)) T.subtrees)

-- the trees of an equation and size, in the order of ranks, each as its vertices in preorder
unfoldable pub listed : System → ℕ → ℕ → List (List Vertex)
listed S u n = map (preorder S u) (trees S u n)

-- the lists of vertices of one tree for each due, in order
abbrev pub completions : System → List Due → List (List Vertex)
completions S [] = [] ∷ []
completions S (d ∷ ds) = pairs (λ x y. x ++ y) (listed S d.equation d.size) (completions S ds)

-- how many there are
abbrev pub completion_count : System → List Due → ℕ
completion_count S [] = 1
completion_count S (d ∷ ds) = count_at S d.equation d.size * completion_count S ds

-- vertices that were placed, the last first, put before others
abbrev pub onto : List Vertex → List Vertex → List Vertex
onto [] ys = ys
onto (x ∷ xs) ys = onto xs (x ∷ ys)

-- a vertex, and each way to go on after it
abbrev pub from_vertex : System → List Due → Vertex → List (List Vertex)
from_vertex S ds x = before_each x (completions S (dues_below S x ++ ds))

-- the trees after all those that begin with what is placed: for each vertex, from the last on, those with a later choice there
abbrev pub later : System → List Vertex → List Due → List (List Vertex)
later S [] ds = []
later S (x ∷ xs) ds =
    map (onto xs) (flat_map (from_vertex S (drop (length x.sizes) ds)) (vertices_after S x))
    ++ later S xs (due x ∷ drop (length x.sizes) ds)

-- the trees that begin with what is placed, and those after them
abbrev pub left : System → List Vertex → List Due → List (List Vertex)
left S xs ds = map (onto xs) (completions S ds) ++ later S xs ds
