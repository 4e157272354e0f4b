-- The laws of systems.
use Rattle.std.specs.Prelude.{◌≡◌, ℕ, ◌↔◌, length, flat_map, true}
use Rattle.av_perm.specs.Members.{IsListOf}
use Rattle.av_perm.specs.Lists.{counting}
use Rattle.av_sys.specs.declared.terms.System.{System}
use Rattle.av_sys.specs.Terms.{terms_at, term_at, well_formed, IsWellFormed}
use Rattle.av_sys.specs.Trees.{Tree, IsTree, size}
use Rattle.av_sys.specs.TreeLists.{trees_of_term, trees}

-- the test for well-formed systems tests them
abbrev pub WellFormedLaw : Type 0
WellFormedLaw = (S : System) → (well_formed S ≡ true) ↔ IsWellFormed S

-- a derivation tree of equation u of size n
pub record IsTreeOfSize (S : System) (u n : ℕ) (T : Tree) : Type 0 where
  pub tree : IsTree S u T
  pub sized : size T ≡ n

-- the list of the trees of an equation of a size holds each of them once; and it is made of the equation's terms in turn, over
-- the lists of the trees of the children
pub record HasTrees (S : System) (u n : ℕ) : Type 0 where
  pub listed : IsListOf (IsTreeOfSize S u n) (trees S u n)
  pub step : trees S u n ≡ flat_map (λ t. trees_of_term (trees S) n t (term_at S u t)) (counting 0 (length (terms_at S u)))

-- so of every well-formed system, equation and size
abbrev pub TreesLaw : Type 0
TreesLaw = (S : System) (u n : ℕ) → IsWellFormed S → HasTrees S u n
