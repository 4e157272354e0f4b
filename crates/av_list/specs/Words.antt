-- The word that the vertices of a tree write.
use Rattle.std.specs.Prelude.{ℕ, ◌+◌, cond, List, [], ◌∷◌, ◌++◌, nat_lt, Option, Some, None}
use Rattle.av_sys.specs.declared.terms.Term.{Term}
use Rattle.av_sys.specs.declared.terms.Term.TheVariants.{Point, Node}
use Rattle.av_sys.specs.declared.terms.System.{System}
use Rattle.av_sys.specs.Terms.{term_at}
use Rattle.av_list.specs.declared.vertex.Vertex.{Vertex}

-- the sum of the sizes of the children whose entry in the root is below p
abbrev pub sizes_below : ℕ → List ℕ → List ℕ → ℕ
sizes_below p [] ns = 0
sizes_below p (q ∷ root) [] = 0
sizes_below p (q ∷ root) (n ∷ ns) = cond {A = ℕ} (nat_lt q p) n 0 + sizes_below p root ns

-- by how much each child is raised: `parts` runs through the root
abbrev pub raises : ℕ → List ℕ → List ℕ → List ℕ → List ℕ
raises r root ns [] = []
raises r root ns (p ∷ parts) = (r + sizes_below p root ns) ∷ raises r root ns parts

-- what a vertex writes itself
abbrev pub own : ℕ → Option Term → List ℕ
own r None = []
own r (Some Point) = (r + 1) ∷ []
own r (Some (Node root cs)) = []

-- by how much the trees of its children and those due before are raised
abbrev pub raised_on : ℕ → List ℕ → Option Term → List ℕ → List ℕ
raised_on r ns None rs = rs
raised_on r ns (Some Point) rs = rs
raised_on r ns (Some (Node root cs)) rs = raises r root ns root ++ rs

-- what the trees of these vertices write, where each is raised by a number
abbrev pub written : System → List ℕ → List Vertex → List ℕ
written S rs [] = []
written S [] (x ∷ xs) = []
written S (r ∷ rs) (x ∷ xs) =
    own r (term_at S x.equation x.term) ++ written S (raised_on r x.sizes (term_at S x.equation x.term) rs) xs

-- the word of a tree's vertices in preorder
abbrev pub word_of : System → List Vertex → List ℕ
word_of S xs = written S (0 ∷ []) xs
