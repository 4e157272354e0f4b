-- What stands in a system, and when it is well formed.
use Rattle.std.specs.Prelude.{◌≡◌, ◌⊎◌, ℕ, ◌<◌, ◌≤◌, ◌^◌, Bool, true, ◌&&◌, ◌||◌, All, List, [], length, slice_get, nat_eq, nat_le, nat_lt, Option, Some, None}
use Rattle.std.specs.List.{list_all}
use Rattle.av_perm.specs.declared.limits.TheConstants.{MAX_ROOT_LENGTH}
use Rattle.av_perm.specs.Members.{In}
use Rattle.av_perm.specs.Lists.{same}
use Rattle.av_perm.specs.Word.{is_word}
use Rattle.av_perm.specs.Simple.{is_simple}
use Rattle.av_perm.specs.Relations.{IsSimple, sum_root, skew_root}
use Rattle.av_sys.specs.Names.{IsMadeOfWords}
use Rattle.av_sys.specs.declared.terms.Term.{Term}
use Rattle.av_sys.specs.declared.terms.Term.TheVariants.{Point, Node}
use Rattle.av_sys.specs.declared.terms.Equation.{Equation}
use Rattle.av_sys.specs.declared.terms.System.{System}

-- the terms of an equation, none where there is no such equation
abbrev pub terms_of : Option Equation → List Term
terms_of None = []
terms_of (Some e) = e.terms

abbrev pub terms_at : System → ℕ → List Term
terms_at S u = terms_of (slice_get S.equations u)

-- term number t of equation number u, where there is one
abbrev pub term_at : System → ℕ → ℕ → Option Term
term_at S u t = slice_get (terms_at S u) t

-- the equations of a term's children
abbrev pub children_of : Option Term → List ℕ
children_of None = []
children_of (Some Point) = []
children_of (Some (Node root children)) = children

-- a root of a system: 12, 21, or a simple word of at most MAX_ROOT_LENGTH entries
abbrev pub IsSystemRoot : List ℕ → Type 0
IsSystemRoot π = (π ≡ sum_root) ⊎ ((π ≡ skew_root) ⊎ (IsSimple π × (length π ≤ MAX_ROOT_LENGTH)))

-- a node of a system of so many equations: a root, and as many children as it is long, each the number of an equation
pub record IsNodeOf (equations : ℕ) (root children : List ℕ) : Type 0 where
  pub rooted : IsSystemRoot root
  pub count : length children ≡ length root
  pub numbers : (c : ℕ) → In c children → c < equations

-- a term of a system of so many equations
abbrev pub IsTermOf : ℕ → Term → Type 0
IsTermOf equations Point = Unit {0}
IsTermOf equations (Node root children) = IsNodeOf equations root children

-- a system is well formed: it has one equation at least and fewer than 2 ^ 32, and each of its terms is one of so many
-- equations
pub record IsWellFormed (S : System) : Type 0 where
  pub some : 1 ≤ length S.equations
  pub few : length S.equations < 2 ^ 32
  pub terms : (e : Equation) (t : Term) → In e S.equations → In t e.terms → IsTermOf (length S.equations) t

-- the names of the system's equations are made of words of 1 to MAX_LENGTH entries
abbrev pub AreNamedByWords : System → Type 0
AreNamedByWords S = All (λ e. IsMadeOfWords e.name) S.equations

-- the tests of these
abbrev pub is_system_root : List ℕ → Bool
is_system_root w = same w sum_root || (same w skew_root || (nat_le (length w) MAX_ROOT_LENGTH && (is_word w && is_simple w)))

abbrev pub is_node_of : ℕ → List ℕ → List ℕ → Bool
is_node_of equations root children =
    is_system_root root && (nat_eq (length children) (length root) && list_all (λ c. nat_lt c equations) children)

abbrev pub is_term_of : ℕ → Term → Bool
is_term_of equations Point = true
is_term_of equations (Node root children) = is_node_of equations root children

abbrev pub are_terms_of : ℕ → List Term → Bool
are_terms_of equations terms = list_all (is_term_of equations) terms

unfoldable pub well_formed : System → Bool
well_formed S =
    nat_le 1 (length S.equations)
    && (nat_lt (length S.equations) (2 ^ 32)
    && list_all (λ e. are_terms_of (length S.equations) e.terms) S.equations)
