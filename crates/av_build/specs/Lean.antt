-- A system without the equations that generate nothing, and without the terms that use one.
use Rattle.std.specs.Prelude.{◌≡◌, ◌<◌, ℕ, zero, suc, Bool, List, [], ◌∷◌, ◌++◌, map, length, slice_get, nat_eq, flat_map, filter, Option, Some, None, if◌then◌else◌}
use Rattle.std.specs.List.{list_any, position_or_len}
use Rattle.av_perm.specs.Members.{In}
use Rattle.av_sys.specs.declared.names.Sign.TheVariants.{C}
use Rattle.av_sys.specs.declared.names.Name.{Name}
use Rattle.av_sys.specs.declared.terms.Term.{Term}
use Rattle.av_sys.specs.declared.terms.Term.TheVariants.{Point, Node}
use Rattle.av_sys.specs.declared.terms.Equation.{Equation}
use Rattle.av_sys.specs.declared.terms.System.{System}
use Rattle.av_sys.specs.Terms.{terms_at, children_of}
use Rattle.av_build.specs.Alive.{has_marked, alive_marks}

-- those of the terms whose children are all marked
abbrev pub marked_terms : List Bool → List Term → List Term
marked_terms marks terms = filter (has_marked marks) terms

-- the terms of equation u whose children are all alive
abbrev pub live_terms : System → ℕ → List Term
live_terms S u = marked_terms (alive_marks S.equations) (terms_at S u)

-- the children of the terms in turn
abbrev pub children_in : List Term → List ℕ
children_in terms = flat_map (λ (t : Term). children_of (Some t)) terms

-- the equations that equation u uses in its live terms, in order of appearance
abbrev pub used : System → ℕ → List ℕ
used S u = children_in (live_terms S u)

-- one more number, unless it was found before
abbrev pub with_number : List ℕ → ℕ → List ℕ
with_number found c = if list_any (nat_eq c) found then found else found ++ c ∷ []

-- more numbers, each unless it was found before
abbrev pub with_numbers : List ℕ → List ℕ → List ℕ
with_numbers found [] = found
with_numbers found (c ∷ cs) = with_numbers (with_number found c) cs

-- the equations found once one more was gone through, if there is one
abbrev pub visit : System → List ℕ → Option ℕ → List ℕ
visit S found None = found
visit S found (Some u) = with_numbers found (used S u)

-- the equations found, from equation 0 on, once the first j of them were gone through
unfoldable pub found_after : System → ℕ → List ℕ
found_after S zero = 0 ∷ []
found_after S (suc j) = let found = found_after S j in visit S found (slice_get found j)

-- the equations that are kept, by their old numbers in the order of the new ones: there are no more than equations
abbrev pub kept : System → List ℕ
kept S = found_after S (length S.equations)

-- the new number of an equation: its place among those kept
abbrev pub place_of : List ℕ → ℕ → ℕ
place_of found c = position_or_len (nat_eq c) found

-- a term with new numbers for its children
abbrev pub renumbered : List ℕ → Term → Term
renumbered found Point = Point
renumbered found (Node root cs) = Node root (map (place_of found) cs)

-- the name of an equation, and where there is none that of all words
abbrev pub name_of : Option Equation → Name
name_of None = record { sign = C; avoid = []; require = [] }
name_of (Some e) = e.name

-- equation u with its live terms
abbrev pub lean_equation : System → List ℕ → ℕ → Equation
lean_equation S found u = record { name = name_of (slice_get S.equations u); terms = map (renumbered found) (live_terms S u) }

-- the equations found
abbrev pub lean_over : System → List ℕ → System
lean_over S found = record { equations = map (lean_equation S found) found }

-- the lean system: the equations that are kept
abbrev pub lean : System → System
lean S = lean_over S (kept S)

-- a number is used by an equation found at a place before i
pub record IsUsedBefore (S : System) (found : List ℕ) (i u : ℕ) : Type 0 where
  pub place : ℕ
  pub user : ℕ
  pub before : place < i
  pub at_place : slice_get found place ≡ Some user
  pub uses : In u (used S user)

-- the list has equation 0 first, and then, each once and in order of first appearance, those that the equations of the list
-- use in turn; each but equation 0 is used by one before it
pub record IsNumbering (S : System) (found : List ℕ) : Type 0 where
  pub appear : found ≡ with_numbers (0 ∷ []) (flat_map (used S) found)
  pub reached : (i u : ℕ) → 0 < i → slice_get found i ≡ Some u → IsUsedBefore S found i u

-- R is the lean system of S: for such a list, its equations are those of the list in turn, each with its live terms alone,
-- and in these the number of an equation is its place in the list
pub record IsLean (S R : System) : Type 0 where
  pub found : List ℕ
  pub numbering : IsNumbering S found
  pub equations : R ≡ lean_over S found
