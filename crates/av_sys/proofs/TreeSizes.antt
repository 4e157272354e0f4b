-- The sizes of the trees of a list, and what is known of valid trees.
use Rattle.std.proofs.Common.{◌≡◌, ℕ, ◌≤◌, Bool, true, false, ◌&&◌, List, [], ◌∷◌, length, inl, inr, refl, sym, subst, arith, true≢false, Option, Some, None, is_some, slice_get}
use Rattle.std.specs.List.{sum}
use Rattle.std.proofs.lemmas.Bool.{and_parts}
use Rattle.std.proofs.lemmas.List.Sums.{sum_by-cons}
use Rattle.av_perm.proofs.Membership.{In, Each}
use Rattle.av_perm.proofs.ListLaws.{get_In}
use Rattle.av_sys.specs.declared.terms.Term.{Term}
use Rattle.av_sys.specs.declared.terms.Term.TheVariants.{Point, Node}
use Rattle.av_sys.specs.declared.terms.Equation.{Equation}
use Rattle.av_sys.specs.declared.terms.System.{System}
use Rattle.av_sys.specs.Terms.{terms_of, term_at, children_of, IsSystemRoot, IsTermOf, IsWellFormed}
use Rattle.av_sys.specs.Trees.{Trees, none, more, are_valid, sizes, size_over}

-- the sizes of the trees of a list, each on its own
abbrev pub sizes_of : Trees → List ℕ
sizes_of none = []
sizes_of (more t subtrees others) = size_over subtrees (sizes subtrees) ∷ sizes_of others

-- their sum is the size of all together
pub sum_sizes : (ts : Trees) → sum (sizes_of ts) ≡ sizes ts
unfolding sizes
sum_sizes none = refl
sum_sizes (more t subtrees others) =
    omega (arith, sum_by-cons (λ (n : ℕ). n) (size_over subtrees (sizes subtrees)) (sizes_of others), sum_sizes others)

-- a tree has a point
pub size_positive : (ts : Trees) → 1 ≤ size_over ts (sizes ts)
unfolding sizes
size_positive none = omega arith
size_positive (more t subtrees others) = omega (arith, size_positive subtrees)

-- each tree of a list has one
pub sizes_positive : (ts : Trees) → Each (λ n. 1 ≤ n) (sizes_of ts)
sizes_positive none n i = absurd i
sizes_positive (more t subtrees others) n (inl e) = subst (λ m. 1 ≤ m) (sym e) (size_positive subtrees)
sizes_positive (more t subtrees others) n (inr i) = sizes_positive others n i

-- what a valid list of trees says of its first tree, and of the others
pub first_valid : (S : System) (u t : ℕ) (us : List ℕ) (subtrees others : Trees) → are_valid S (u ∷ us) (more t subtrees others) ≡ true
    → (is_some (term_at S u t) && are_valid S (children_of (term_at S u t)) subtrees) ≡ true
unfolding are_valid
first_valid S u t us subtrees others v = front (is_some (term_at S u t)) (are_valid S (children_of (term_at S u t)) subtrees) (are_valid S us others) v
  where
    front : (a b c : Bool) → (a && (b && c)) ≡ true → (a && b) ≡ true
    front true b c e = (and_parts b c e).0
    front false b c e = e

pub others_valid : (S : System) (u t : ℕ) (us : List ℕ) (subtrees others : Trees) → are_valid S (u ∷ us) (more t subtrees others) ≡ true
    → are_valid S us others ≡ true
unfolding are_valid
others_valid S u t us subtrees others v =
    let a = and_parts (is_some (term_at S u t)) (are_valid S (children_of (term_at S u t)) subtrees && are_valid S us others) v in
    (and_parts (are_valid S (children_of (term_at S u t)) subtrees) (are_valid S us others) a.1).1

-- a valid list has as many trees as equations
pub as_many : (S : System) (us : List ℕ) (ts : Trees) → are_valid S us ts ≡ true → length (sizes_of ts) ≡ length us
unfolding are_valid
as_many S [] none v = refl
as_many S [] (more t subtrees others) v = absurd (true≢false (sym v))
as_many S (u ∷ us) none v = absurd (true≢false (sym v))
as_many S (u ∷ us) (more t subtrees others) v = omega (arith, as_many S us others (others_valid S u t us subtrees others v))

-- a tree with a subtree for each of some equations has the points of its subtrees
pub node_size : (S : System) (us : List ℕ) (ts : Trees) → 1 ≤ length us → are_valid S us ts ≡ true → size_over ts (sizes ts) ≡ sizes ts
unfolding are_valid
node_size S [] none some v = absurd (omega arith)
node_size S (u ∷ us) none some v = absurd (true≢false (sym v))
node_size S us (more t subtrees others) some v = refl

-- a node has two children or more
abbrev pub Branches : Option Term → Type 0
Branches None = Unit {0}
Branches (Some Point) = Unit {0}
Branches (Some (Node root children)) = 2 ≤ length children

-- a root has two entries or more
root_long : (w : List ℕ) → IsSystemRoot w → 2 ≤ length w
root_long w (inl e) = rw e (omega arith)
root_long w (inr (inl e)) = rw e (omega arith)
root_long w (inr (inr s)) = omega (arith, s.0.long)

-- in a well-formed system every node branches
pub nodes_branch : (S : System) → IsWellFormed S → (u t : ℕ) → Branches (term_at S u t)
nodes_branch S h u t = at_equation (slice_get S.equations u) refl
  where
    term_branches : (term : Term) → IsTermOf (length S.equations) term → Branches (Some term)
    term_branches Point k = tt
    term_branches (Node root children) k = omega (arith, root_long root k.rooted, k.count)

    at_term : (e : Equation) → In e S.equations → (o : Option Term) → slice_get e.terms t ≡ o → Branches o
    at_term e i None g = tt
    at_term e i (Some term) g = term_branches term (h.terms e term i (get_In e.terms t term g))

    at_equation : (o : Option Equation) → slice_get S.equations u ≡ o → Branches (slice_get (terms_of o) t)
    at_equation None g = tt
    at_equation (Some e) g = at_term e (get_In S.equations u e g) (slice_get e.terms t) refl
