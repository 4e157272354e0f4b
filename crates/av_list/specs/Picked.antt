-- What was chosen along the terms and the vertices of an equation.
use Rattle.std.specs.Prelude.{◌≡◌, ℕ, ◌+◌, ◌*◌, ◌-◌, ◌<◌, ◌≤◌, List, ◌∷◌, length}
use Rattle.av_sys.specs.declared.terms.System.{System}
use Rattle.av_sys.specs.Terms.{terms_at, term_at}
use Rattle.av_count.specs.Choices.{sum_from}
use Rattle.av_list.specs.declared.vertex.Vertex.{Vertex}
use Rattle.av_list.specs.Sizes.{Skips}
use Rattle.av_list.specs.Vertices.{vertices_of, vertices_after, same_after, children_at, trees_under}
use Rattle.av_list.specs.Remaining.{whole}

-- the term within whose f-many, each F times, the place r lies, from term `least` on
pub record TermFound (f : ℕ → ℕ) (len F least r at left : ℕ) : Type 0 where
  pub low : least ≤ at
  pub high : at < len
  pub place : left + F * sum_from f least (at - least) ≡ r
  pub within : left < F * f at

-- the vertex is the first with its term, once r is used up
pub record Begins (S : System) (u t n F r : ℕ) (x : Vertex) (left : ℕ) : Type 0 where
  pub equation : x.equation ≡ u
  pub term : x.term ≡ t
  pub size : x.size ≡ n
  pub many : length x.sizes ≡ length (children_at S x)
  pub sum : whole x.sizes ≡ n
  pub skips : Skips (trees_under S) F (vertices_of u n t (term_at S u t)) (x ∷ same_after x) r left
  pub within : left < F * trees_under S x

-- the vertex is the first of the list, once r is used up
pub record Picked (S : System) (u n F : ℕ) (xs : List Vertex) (r : ℕ) (x : Vertex) (left : ℕ) : Type 0 where
  pub equation : x.equation ≡ u
  pub term : x.term < length (terms_at S u)
  pub size : x.size ≡ n
  pub many : length x.sizes ≡ length (children_at S x)
  pub sum : whole x.sizes ≡ n
  pub skips : Skips (trees_under S) F xs (x ∷ vertices_after S x) r left
  pub within : left < F * trees_under S x
