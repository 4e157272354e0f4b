-- The verdict on a claimed system: the first equation with a fault, and which. The equations are gone through in order of
-- number, and each through its name, its points, the roots of its terms, and the cells of each root that it may have.
use Rattle.std.specs.Prelude.{ℕ, suc, ◌-◌, ◌^◌, Bool, true, false, not, ◌&&◌, ◌||◌, cond, List, [], ◌∷◌, length, nat_eq, nat_le, nat_lt, Option, Some, None}
use Rattle.std.specs.List.{list_all, list_any}
use Rattle.std.specs.Cmp.Lexicographic.{pointwise}
use Rattle.av_perm.specs.Lists.{same}
use Rattle.av_perm.specs.Contain.{contains}
use Rattle.av_perm.specs.Class.{minimal, top}
use Rattle.av_perm.specs.Relations.{sum_root, skew_root}
use Rattle.av_sys.specs.declared.names.Sign.{Sign}
use Rattle.av_sys.specs.declared.names.Sign.TheVariants.{C, P, M}
use Rattle.av_sys.specs.declared.names.Name.{Name}
use Rattle.av_sys.specs.declared.terms.Term.{Term}
use Rattle.av_sys.specs.declared.terms.Term.TheVariants.{Point, Node}
use Rattle.av_sys.specs.declared.terms.Equation.{Equation}
use Rattle.av_sys.specs.declared.terms.System.{System}
use Rattle.av_split.specs.Boxes.{Box}
use Rattle.av_build.specs.declared.limits.TheConstants.{MAX_SIZE}
use Rattle.av_build.specs.Drafts.{child_names, has_point}
use Rattle.av_build.specs.Canonical.{same_sign, same_name, first_name, is_void, grow_from, grown_size, as_system}
use Rattle.av_build.specs.Alive.{alive}
use Rattle.av_walk.specs.Walk.{Ending, good, bare, twice, extra, Leaf}
use Rattle.av_walk.specs.Leaves.{names_at, leaves_of}
use Rattle.av_check.specs.declared.claim.Claim.{Claim}
use Rattle.av_check.specs.declared.fault.Fault.{Fault}
use Rattle.av_check.specs.declared.fault.Fault.TheVariants as faults
use Rattle.av_check.specs.declared.verdict.Flaw.{Flaw}
use Rattle.av_check.specs.declared.verdict.Flaw.TheVariants.{Lost, Twice, Extra, Large}
use Rattle.av_check.specs.declared.verdict.Verdict.{Verdict}
use Rattle.av_check.specs.declared.verdict.Verdict.TheVariants as verdicts

-- the first of two answers, and of those to the items of a list
abbrev pub first_of : {X : Type 0} → Option X → Option X → Option X
first_of None y = y
first_of (Some x) y = Some x

abbrev pub first_some : {A X : Type 0} → (A → Option X) → List A → Option X
first_some f [] = None
first_some f (x ∷ xs) = first_of (f x) (first_some f xs)

-- the answer where a test passes
abbrev pub some_if : {X : Type 0} → Bool → X → Option X
some_if true x = Some x
some_if false x = None

-- the required words of a claim
abbrev pub words_or_none : Option (List (List ℕ)) → List (List ℕ)
words_or_none None = []
words_or_none (Some ws) = ws

abbrev pub required_of : Claim → List (List ℕ)
required_of claim = words_or_none claim.require

-- the name of the claim, which equation 0 has to have
abbrev pub claim_name : Claim → Name
claim_name claim = first_name claim.basis (required_of claim)

-- some minimal word of the basis contains no avoided word, so that words outside the class may mean the name
abbrev pub leaves_class : Name → Name → Bool
leaves_class first n = list_any (λ b. not (list_any (contains b) n.avoid)) first.avoid

-- a name that no equation may have: its avoided words aren't their own minimal ones, its required ones not their own maximal
-- ones but for the word 1, a required word contains an avoided one, or a word of the basis contains no avoided one
abbrev pub is_misnamed : Name → Name → Bool
is_misnamed first n = not (pointwise same (minimal n.avoid) n.avoid) || (not (pointwise same (top n.require) n.require) || (is_void n || leaves_class first n))

-- or that equation number u may not have: equation 0 has the name of the claim
abbrev pub is_wrong_name : Name → ℕ → Name → Bool
is_wrong_name first u n = (nat_eq u 0 && not (same_name n first)) || is_misnamed first n

-- how many terms are the point, and how many have to be
abbrev pub count_points : List Term → ℕ
count_points [] = 0
count_points (Point ∷ ts) = suc (count_points ts)
count_points (Node root children ∷ ts) = count_points ts

abbrev pub points_due : Name → ℕ
points_due n = cond {A = ℕ} (has_point n) 1 0

-- the sign of a root's first child; that of every other child is C
abbrev pub first_sign : List ℕ → Sign
first_sign root = cond (same root sum_root) P (cond (same root skew_root) M C)

abbrev pub are_signed : Sign → List Name → Bool
are_signed first [] = true
are_signed first (n ∷ ns) = same_sign n.sign first && list_all (λ m. same_sign m.sign C) ns

-- the roots that an equation with this sign may have, in order
abbrev pub roots_for : Sign → List (List ℕ) → List (List ℕ)
roots_for C simples = sum_root ∷ skew_root ∷ simples
roots_for P simples = skew_root ∷ simples
roots_for M simples = sum_root ∷ simples

-- the root of a term that the equation of a name may not have: it is none of those, or a child's name has the wrong sign
abbrev pub is_wrong_node : System → List (List ℕ) → Name → List ℕ → List ℕ → Bool
is_wrong_node S simples n root cs = not (list_any (same root) (roots_for n.sign simples)) || not (are_signed (first_sign root) (names_at S cs))

abbrev pub wrong_root : System → List (List ℕ) → Name → Term → Option (List ℕ)
wrong_root S simples n Point = None
wrong_root S simples n (Node root cs) = some_if (is_wrong_node S simples n root cs) root

-- the canonical system of a name is within the limit, and its equation 0 generates nothing
abbrev pub is_dead : ℕ → List (List ℕ) → Name → Bool
is_dead limit simples n = let g = grow_from simples n limit in nat_le (grown_size g) limit && not (alive (as_system g) 0)

-- it is larger than the limit
abbrev pub is_large : ℕ → List (List ℕ) → Name → Bool
is_large limit simples n = nat_lt limit (grown_size (grow_from simples n limit))

-- a leaf that no term serves is right where the name of some child is dead
abbrev pub bare_flaw : ℕ → List (List ℕ) → List Name → Option Flaw
bare_flaw limit simples ns = cond (list_any (is_dead limit simples) ns) None (cond (list_any (is_large limit simples) ns) (Some Large) (Some Lost))

-- the flaw of a leaf of a root
abbrev pub ending_flaw : ℕ → List (List ℕ) → List ℕ → Ending → Box → Option Flaw
ending_flaw limit simples root good cell = None
ending_flaw limit simples root bare cell = bare_flaw limit simples (child_names (first_sign root) cell)
ending_flaw limit simples root twice cell = Some Twice
ending_flaw limit simples root extra cell = Some Extra

abbrev pub leaf_flaw : ℕ → List (List ℕ) → List ℕ → Leaf Box → Option Flaw
leaf_flaw limit simples root l = ending_flaw limit simples root l.ending l.cell

-- a number up to a bound
abbrev pub at_most : ℕ → ℕ → ℕ
at_most most k = cond (nat_le k most) k most

-- the fault of the first leaf with a flaw. Leaves have numbers, here from k on, which are given up to 2 ^ 64 - 1
abbrev pub cell_fault : List ℕ → ℕ → Option Flaw → Option Fault
cell_fault root k None = None
cell_fault root k (Some flaw) = Some (faults.Cell root (at_most (2 ^ 64 - 1) k) flaw)

abbrev pub first_leaf : (Leaf Box → Option Flaw) → List ℕ → ℕ → List (Leaf Box) → Option Fault
first_leaf f root k [] = None
first_leaf f root k (l ∷ ls) = first_of (cell_fault root k (f l)) (first_leaf f root (suc k) ls)

-- among the leaves of a root and an equation
abbrev pub root_fault : ℕ → System → List (List ℕ) → Equation → List ℕ → Option Fault
root_fault limit S simples e root = first_leaf (leaf_flaw limit simples root) root 0 (leaves_of S root e)

abbrev pub root_found : Option (List ℕ) → Option Fault
root_found None = None
root_found (Some root) = Some (faults.Root root)

-- the first fault of each kind of equation number u, and of all
abbrev pub name_fault : Name → ℕ → Equation → Option Fault
name_fault first u e = some_if (is_wrong_name first u e.name) faults.Name

abbrev pub point_fault : Equation → Option Fault
point_fault e = some_if (not (nat_eq (count_points e.terms) (points_due e.name))) faults.Points

abbrev pub node_fault : System → List (List ℕ) → Equation → Option Fault
node_fault S simples e = root_found (first_some (wrong_root S simples e.name) e.terms)

abbrev pub cells_fault : ℕ → System → List (List ℕ) → Equation → Option Fault
cells_fault limit S simples e = first_some (root_fault limit S simples e) (roots_for e.name.sign simples)

abbrev pub equation_fault : ℕ → Name → System → List (List ℕ) → ℕ → Equation → Option Fault
equation_fault limit first S simples u e = first_of (name_fault first u e) (first_of (point_fault e) (first_of (node_fault S simples e) (cells_fault limit S simples e)))

-- the verdict of a fault of equation number u
abbrev pub verdict_of : ℕ → Fault → Verdict
verdict_of u faults.Name = verdicts.Name u
verdict_of u faults.Points = verdicts.Point u
verdict_of u (faults.Root root) = verdicts.Root u root
verdict_of u (faults.Cell root cell flaw) = verdicts.Cell u root cell flaw

abbrev pub verdict_or : ℕ → Option Fault → Verdict → Verdict
verdict_or u None others = others
verdict_or u (Some fault) others = verdict_of u fault

-- that of the first equation with a fault, by number from u on, or yes
abbrev pub verdict_from : (ℕ → Equation → Option Fault) → ℕ → List Equation → Verdict
verdict_from f u [] = verdicts.Yes
verdict_from f u (e ∷ es) = verdict_or u (f u e) (verdict_from f (suc u) es)

-- the equations are one of this name, without terms
abbrev pub is_bare : Name → List Equation → Bool
is_bare first [] = false
is_bare first (e ∷ []) = same_name e.name first && nat_eq (length e.terms) 0
is_bare first (e ∷ d ∷ es) = false

abbrev pub yes_if : Bool → Verdict
yes_if true = verdicts.Yes
yes_if false = verdicts.Name 0

-- the verdict where the canonical systems that are asked for are grown up to a limit. Where a required word contains a word
-- of the basis there is no word to generate, and the system has to be one equation without terms
unfoldable pub verdict_up_to : ℕ → Claim → List (List ℕ) → Verdict
verdict_up_to limit claim simples =
    cond (is_void (claim_name claim)) (yes_if (is_bare (claim_name claim) claim.system.equations))
    (verdict_from (equation_fault limit (claim_name claim) claim.system simples) 0 claim.system.equations)

-- the verdict on a claim, with these simple words as roots besides 12 and 21
abbrev pub verdict : Claim → List (List ℕ) → Verdict
verdict claim simples = verdict_up_to MAX_SIZE claim simples
