-- The vertices that a tree may begin with, in order, and what is due below a vertex.
use Rattle.std.specs.Prelude.{ℕ, suc, ◌-◌, ◌==◌, cond, List, [], ◌∷◌, ◌++◌, map, length, flat_map, Option, Some, None}
use Rattle.av_perm.specs.Lists.{counting, size_lists}
use Rattle.av_sys.specs.declared.terms.Term.{Term}
use Rattle.av_sys.specs.declared.terms.Term.TheVariants.{Point, Node}
use Rattle.av_sys.specs.declared.terms.System.{System}
use Rattle.av_sys.specs.Terms.{terms_at, term_at, children_of}
use Rattle.av_sys.specs.TreeLists.{count_at}
use Rattle.av_list.specs.declared.vertex.Vertex.{Vertex}
use Rattle.av_list.specs.declared.vertex.Due.{Due}
use Rattle.av_list.specs.Sizes.{weight, sizes_after}

-- the vertex of equation u with term number t, of size n, whose subtrees have these sizes
abbrev pub vertex : ℕ → ℕ → ℕ → List ℕ → Vertex
vertex u n t ns = record { equation = u; term = t; size = n; sizes = ns }

-- the vertices of equation u and size n with term number t, in order
abbrev pub vertices_of : ℕ → ℕ → ℕ → Option Term → List Vertex
vertices_of u n t None = []
vertices_of u n t (Some Point) = cond (n == 1) (vertex u n t [] ∷ []) []
vertices_of u n t (Some (Node root cs)) = map (vertex u n t) (size_lists (length cs) n)

-- those of k terms from term t on
abbrev pub vertices_from : System → ℕ → ℕ → ℕ → ℕ → List Vertex
vertices_from S u n t k = flat_map (λ j. vertices_of u n j (term_at S u j)) (counting t k)

-- all vertices of an equation and size
abbrev pub vertices : System → ℕ → ℕ → List Vertex
vertices S u n = vertices_from S u n 0 (length (terms_at S u))

-- those with the same term after a vertex
abbrev pub same_after : Vertex → List Vertex
same_after x = map (vertex x.equation x.size x.term) (sizes_after x.sizes x.size)

-- those after a vertex
abbrev pub vertices_after : System → Vertex → List Vertex
vertices_after S x =
    same_after x
    ++ vertices_from S x.equation x.size (suc x.term) (length (terms_at S x.equation) - suc x.term)

-- the equations of a vertex's children
abbrev pub children_at : System → Vertex → List ℕ
children_at S x = children_of (term_at S x.equation x.term)

-- how many trees have a vertex for their root
abbrev pub trees_under : System → Vertex → ℕ
trees_under S x = weight (count_at S) (children_at S x) x.sizes

-- a tree is due for each equation and its size
abbrev pub dues : List ℕ → List ℕ → List Due
dues [] ns = []
dues (c ∷ cs) [] = []
dues (c ∷ cs) (n ∷ ns) = record { equation = c; size = n } ∷ dues cs ns

-- what is due below a vertex
abbrev pub dues_below : System → Vertex → List Due
dues_below S x = dues (children_at S x) x.sizes

-- what a vertex was placed for
abbrev pub due : Vertex → Due
due x = record { equation = x.equation; size = x.size }
