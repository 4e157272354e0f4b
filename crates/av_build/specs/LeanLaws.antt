-- The laws of the lean system.
use Rattle.std.specs.Prelude.{◌≡◌, ℕ, ◌<◌, ◌≤◌, ◌↔◌, List, length, slice_get, Some}
use Rattle.av_perm.specs.Members.{In, Once}
use Rattle.av_sys.specs.declared.terms.Term.{Term}
use Rattle.av_sys.specs.declared.terms.Equation.{Equation}
use Rattle.av_sys.specs.declared.terms.System.{System}
use Rattle.av_sys.specs.Terms.{IsWellFormed, terms_at, children_of}
use Rattle.av_sys.specs.Trees.{Tree, IsTree, size, value}
use Rattle.av_sys.specs.TreeLists.{trees, members_at, members}
use Rattle.av_sys.specs.Exact.{Exact, NamedUpTo, Named}
use Rattle.av_build.specs.Canonical.{system_size}
use Rattle.av_build.specs.Alive.{IsAlive}
use Rattle.av_build.specs.Lean.{kept, lean, IsLean}

-- exactly one system is a lean system of S, and it is the one that is computed
abbrev pub IsLeanLaw : Type 0
IsLeanLaw = (S R : System) → IsWellFormed S → IsLean S R ↔ (R ≡ lean S)

-- the lean system is well formed, and no larger than the system
pub record HasLeanForm (S : System) : Type 0 where
  pub form : IsWellFormed (lean S)
  pub small : system_size (lean S) ≤ system_size S

-- so of every well-formed system
abbrev pub LeanFormLaw : Type 0
LeanFormLaw = (S : System) → IsWellFormed S → HasLeanForm S

-- equation v of the lean system stems from equation u of the system: they have the same name, and at every size the trees of
-- both have the same list of values
pub record StemsFrom (S : System) (v u : ℕ) : Type 0 where
  pub old : Equation
  pub new : Equation
  pub at_old : slice_get S.equations u ≡ Some old
  pub at_new : slice_get (lean S).equations v ≡ Some new
  pub named : new.name ≡ old.name
  pub values : (n : ℕ) → members_at (lean S) v n ≡ members_at S u n

-- each equation of the lean system stems from the one at its place in the list of those kept, which has equation 0 first and
-- none twice
pub record KeepsEquations (S : System) : Type 0 where
  pub first : slice_get (kept S) 0 ≡ Some 0
  pub once : Once (kept S)
  pub count : length (lean S).equations ≡ length (kept S)
  pub stems : (v u : ℕ) → slice_get (kept S) v ≡ Some u → StemsFrom S v u

-- so of every well-formed system
abbrev pub KeptLaw : Type 0
KeptLaw = (S : System) → IsWellFormed S → KeepsEquations S

-- the lean system has the members of the system, in the same order
abbrev pub LeanMembersLaw : Type 0
LeanMembersLaw = (S : System) (n : ℕ) → IsWellFormed S → members (lean S) n ≡ members S n

-- in the lean system each equation but equation 0 is alive, and each child of each term is alive
pub record IsAllAlive (R : System) : Type 0 where
  pub equations : (v : ℕ) → 0 < v → v < length R.equations → IsAlive R v
  pub children : (v : ℕ) (t : Term) (c : ℕ) → In t (terms_at R v) → In c (children_of (Some t)) → IsAlive R c

-- so of every well-formed system
abbrev pub LeanAliveLaw : Type 0
LeanAliveLaw = (S : System) → IsWellFormed S → IsAllAlive (lean S)

-- a tree of equation v of R and one of equation u of S at the same place in the lists of their trees of one size
pub record AreTwins (S : System) (u : ℕ) (R : System) (v : ℕ) (T U : Tree) : Type 0 where
  pub points : ℕ
  pub place : ℕ
  pub new : slice_get (trees R v points) place ≡ Some T
  pub old : slice_get (trees S u points) place ≡ Some U

-- twins are trees of the two equations, of the same size and the same value
pub record IsAlike (S : System) (u : ℕ) (R : System) (v : ℕ) (T U : Tree) : Type 0 where
  pub new : IsTree R v T
  pub old : IsTree S u U
  pub sized : size T ≡ size U
  pub valued : value R v T ≡ value S u U

-- the trees of both equations correspond, each to exactly one of the same size and the same value
pub record HasSameTrees (S : System) (u : ℕ) (R : System) (v : ℕ) : Type 0 where
  pub alike : (T U : Tree) → AreTwins S u R v T U → IsAlike S u R v T U
  pub there : (T : Tree) → IsTree R v T → (U : Tree) × AreTwins S u R v T U
  pub back : (U : Tree) → IsTree S u U → (T : Tree) × AreTwins S u R v T U
  pub one_there : (T U V : Tree) → AreTwins S u R v T U → AreTwins S u R v T V → U ≡ V
  pub one_back : (T V U : Tree) → AreTwins S u R v T U → AreTwins S u R v V U → T ≡ V

-- so of each equation that is kept. What is told by the sizes and the values of the trees of an equation alone passes over to
-- the lean system and back: that the values are the words of a set, each of one tree, among others
abbrev pub LeanTreesLaw : Type 0
LeanTreesLaw = (S : System) (v u : ℕ) → IsWellFormed S → slice_get (kept S) v ≡ Some u → HasSameTrees S u (lean S) v

-- where each equation generates what its name says, up to a size or at every size, so does each of the lean system
pub record KeepsNamed (S : System) : Type 0 where
  pub up_to : (m : ℕ) → NamedUpTo S m → NamedUpTo (lean S) m
  pub always : Named S → Named (lean S)

-- so of every well-formed system
abbrev pub LeanNamedLaw : Type 0
LeanNamedLaw = (S : System) → IsWellFormed S → KeepsNamed S

-- and where the system describes a class, so does the lean system
abbrev pub LeanExactLaw : Type 0
LeanExactLaw = (S : System) (basis required : List (List ℕ)) → IsWellFormed S → Exact S basis required → Exact (lean S) basis required
