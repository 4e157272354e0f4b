-- What holds of vertices that were placed and of what is due.
use Rattle.std.specs.Prelude.{◌≡◌, ◌⊎◌, ℕ, ◌+◌, ◌*◌, ◌-◌, ◌<◌, ◌≤◌, List, [], ◌∷◌, ◌++◌, length}
use Rattle.av_perm.specs.declared.limits.TheConstants.{MAX_LENGTH}
use Rattle.av_count.specs.declared.count.Count.{Count}
use Rattle.av_count.specs.Counts.{capped}
use Rattle.av_sys.specs.TreeLists.{count_at}
use Rattle.av_sys.specs.declared.terms.System.{System}
use Rattle.av_sys.specs.Terms.{terms_at}
use Rattle.av_list.specs.declared.vertex.Vertex.{Vertex}
use Rattle.av_list.specs.declared.vertex.Due.{Due}
use Rattle.av_list.specs.Vertices.{vertices, vertices_after, children_at, trees_under, dues_below, due}
use Rattle.av_list.specs.Remaining.{whole}
use Rattle.av_list.specs.Words.{written}

-- the vertex is one of its equation and size, and some tree has it for its root
pub record Sound (S : System) (x : Vertex) : Type 0 where
  pub equation : x.equation < length S.equations
  pub term : x.term < length (terms_at S x.equation)
  pub many : length x.sizes ≡ length (children_at S x)
  pub sum : whole x.sizes ≡ x.size
  pub some : 0 < trees_under S x
  pub front : List Vertex
  pub there : vertices S x.equation x.size ≡ front ++ x ∷ vertices_after S x

-- a derivation from the left of a tree of equation 0 of size n has come to this: each vertex, the last first, was placed for
-- what was due next, and its children are due in its place
abbrev pub Derives : System → ℕ → List Vertex → List Due → Type 0
Derives S n [] ds = ds ≡ record { equation = 0; size = n } ∷ []
Derives S n (x ∷ xs) ds = Sound S x × ((rest : List Due) × (ds ≡ dues_below S x ++ rest) × Derives S n xs (due x ∷ rest))

-- the sizes that are due, together
abbrev pub due_sizes : List Due → ℕ
due_sizes [] = 0
due_sizes (d ∷ ds) = d.size + due_sizes ds

-- how many vertices it may still take: a tree of size n has at most 2 n - 1
abbrev pub load : List Due → ℕ
load [] = 0
load (d ∷ ds) = (2 * d.size - 1) + load ds

-- some tree of this equation and size is in the table
pub record IsDue (S : System) (largest : ℕ) (d : Due) : Type 0 where
  pub equation : d.equation < length S.equations
  pub least : 1 ≤ d.size
  pub most : d.size ≤ largest
  pub some : 0 < count_at S d.equation d.size

-- so of each due
abbrev pub EachDue : System → ℕ → List Due → Type 0
EachDue S n [] = Unit {0}
EachDue S n (d ∷ ds) = IsDue S n d × EachDue S n ds

-- the count is that of the number, or, at place 0, of any number above 0
pub record IsFactor (r number : ℕ) (count : Count) : Type 0 where
  pub times : ℕ
  pub is : count ≡ capped times
  pub some : 1 ≤ times
  pub exact : (r ≡ 0) ⊎ (times ≡ number)

-- these vertices, in preorder, do what is due
abbrev pub Completes : System → List Due → List Vertex → Type 0
Completes S ds [] = ds ≡ []
Completes S ds (x ∷ xs) = Sound S x × ((rest : List Due) × (ds ≡ due x ∷ rest) × Completes S (dues_below S x ++ rest) xs)

-- each due, raised by its number, lies within size n
abbrev pub Fit : ℕ → List ℕ → List Due → Type 0
Fit n [] ds = ds ≡ []
Fit n (r ∷ rs) [] = ⊥
Fit n (r ∷ rs) (d ∷ ds) = (r + d.size ≤ n) × Fit n rs ds

-- `out` is written and these vertices, raised by these numbers, write the rest of the word, of at most `MAX_LENGTH` entries
pub record Writing (S : System) (rs : List ℕ) (xs : List Vertex) (out word : List ℕ) : Type 0 where
  pub waiting : List Due
  pub completes : Completes S waiting xs
  pub fit : Fit MAX_LENGTH rs waiting
  pub room : length out + due_sizes waiting ≤ MAX_LENGTH
  pub rest : out ++ written S rs xs ≡ word
