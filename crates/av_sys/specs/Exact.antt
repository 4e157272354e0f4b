-- When a system describes a class, and when its equations generate what their names say.
use Rattle.std.specs.Prelude.{◌≡◌, ℕ, ◌≤◌, List, length, slice_get, Option, Some, None}
use Rattle.av_perm.specs.Relations.{InClassWith, InClassWithAt}
use Rattle.av_sys.specs.declared.terms.Equation.{Equation}
use Rattle.av_sys.specs.declared.terms.System.{System}
use Rattle.av_sys.specs.Names.{Means}
use Rattle.av_sys.specs.Trees.{Tree, IsTree, size, value}

-- the values of the derivation trees of equation 0 of each size are words of that length that avoid the basis and contain the
-- required words, each such word is the value of one, and no two of these trees have the same value
pub record Exact (S : System) (basis required : List (List ℕ)) : Type 0 where
  pub sound : (T : Tree) → IsTree S 0 T → InClassWithAt basis required (size T) (value S 0 T)
  pub complete : (σ : List ℕ) → InClassWith basis required σ → (T : Tree) × IsTree S 0 T × (size T ≡ length σ) × (value S 0 T ≡ σ)
  pub once : (T U : Tree) → IsTree S 0 T → IsTree S 0 U → value S 0 T ≡ value S 0 U → T ≡ U

-- the same for trees of size at most m and words of length at most m
pub record ExactUpTo (S : System) (basis required : List (List ℕ)) (m : ℕ) : Type 0 where
  pub sound : (T : Tree) → IsTree S 0 T → size T ≤ m → InClassWithAt basis required (size T) (value S 0 T)
  pub complete : (σ : List ℕ) → InClassWith basis required σ → length σ ≤ m → (T : Tree) × IsTree S 0 T × (size T ≡ length σ) × (value S 0 T ≡ σ)
  pub once : (T U : Tree) → IsTree S 0 T → IsTree S 0 U → size T ≤ m → size U ≤ m → value S 0 T ≡ value S 0 U → T ≡ U

-- the word means the name of the equation, if there is such an equation
abbrev pub MeansOf : Option Equation → List ℕ → Type 0
MeansOf None σ = ⊥
MeansOf (Some e) σ = Means e.name σ

-- the word means the name of equation number u
abbrev pub MeansAt : System → ℕ → List ℕ → Type 0
MeansAt S u σ = MeansOf (slice_get S.equations u) σ

-- up to size m the values of the trees of each equation, which are as long as the trees have points, are exactly the words
-- that mean its name, each of one tree
pub record NamedUpTo (S : System) (m : ℕ) : Type 0 where
  pub sound : (u : ℕ) (T : Tree) → IsTree S u T → size T ≤ m → MeansAt S u (value S u T) × (length (value S u T) ≡ size T)
  pub complete : (u : ℕ) (σ : List ℕ) → MeansAt S u σ → length σ ≤ m → (T : Tree) × IsTree S u T × (size T ≡ length σ) × (value S u T ≡ σ)
  pub once : (u : ℕ) (T U : Tree) → IsTree S u T → IsTree S u U → size T ≤ m → size U ≤ m → value S u T ≡ value S u U → T ≡ U

-- at every size
abbrev pub Named : System → Type 0
Named S = (m : ℕ) → NamedUpTo S m
