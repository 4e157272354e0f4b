-- The trees of an equation are those of its terms in turn, over the lists of trees of the children: no bound on sizes is left.
use Rattle.std.proofs.Common.{◌≡◌, ℕ, zero, suc, ◌<◌, ◌≤◌, List, [], ◌∷◌, map, length, inl, inr, refl, sym, ◌∙◌, ap, ap₂, arith, Option, Some, None}
use Rattle.std.specs.List.{flat_map}
use Rattle.av_perm.specs.Lists.{counting, size_lists}
use Rattle.av_perm.proofs.Membership.{Each, nil_from}
use Rattle.av_perm.proofs.GeneratedLists.{sizes_from}
use Rattle.av_perm.proofs.ListLaws.{flat_map_each}
use Rattle.av_sys.specs.declared.terms.Term.{Term}
use Rattle.av_sys.specs.declared.terms.Term.TheVariants.{Point, Node}
use Rattle.av_sys.specs.declared.terms.System.{System}
use Rattle.av_sys.specs.Terms.{terms_at, term_at, IsWellFormed}
use Rattle.av_sys.specs.Trees.{Tree}
use Rattle.av_sys.specs.TreeLists.{tree_lists, at_sizes, trees_of_term, trees_up_to, trees}
use Rattle.av_sys.proofs.TreeSizes.{Branches, nodes_branch, size_positive}
use Rattle.av_sys.proofs.TreesFit.{trees_fit}
use Rattle.av_sys.proofs.TreesListed.{less_than_sum}

-- the lists of trees below a size are equal
abbrev SameBelow : ℕ → (ℕ → ℕ → List Tree) → (ℕ → ℕ → List Tree) → Type 0
SameBelow n below other = (u m : ℕ) → m < n → below u m ≡ other u m

-- then so are those of children of smaller sizes
sizes_same : (n : ℕ) (below other : ℕ → ℕ → List Tree) → SameBelow n below other → (us ns : List ℕ) → Each (λ m. m < n) ns
    → at_sizes below us ns ≡ at_sizes other us ns
sizes_same n below other h [] ns small = refl
sizes_same n below other h (u ∷ us) [] small = refl
sizes_same n below other h (u ∷ us) (m ∷ ns) small =
    ap₂ (λ (ts : List Tree) (rest : List (List Tree)). ts ∷ rest) (h u m (small m (inl refl)))
    (sizes_same n below other h us ns (λ k i. small k (inr i)))

-- and those of a term
term_same : (n t : ℕ) (below other : ℕ → ℕ → List Tree) → SameBelow n below other → (o : Option Term) → Branches o
    → trees_of_term below n t o ≡ trees_of_term other n t o
term_same n t below other h None two = refl
term_same n t below other h (Some Point) two = refl
term_same n t below other h (Some (Node root children)) two =
    flat_map_each (λ ns. made (at_sizes below children ns)) (λ ns. made (at_sizes other children ns)) (size_lists (length children) n)
    (λ ns i. let s = sizes_from (length children) n ns i in
    ap made (sizes_same n below other h children ns (λ m j. omega (arith, less_than_sum ns (omega (arith, two, s.long)) s.some m j, s.whole))))
  where
    made : List (List Tree) → List Tree
    made tss = map (λ ts. record { term = t; subtrees = ts }) (tree_lists tss)

-- there is no tree of size 0
none_of_zero : (S : System) → ((u t : ℕ) → Branches (term_at S u t)) → (d u : ℕ) → trees_up_to S d u 0 ≡ []
none_of_zero S two d u = nil_from (trees_up_to S d u 0) (λ T i. omega (arith, (trees_fit S two d u 0 T i).sized, size_positive T.subtrees))

-- the list is the same for every bound that the size is within
bound_free : (S : System) → ((u t : ℕ) → Branches (term_at S u t)) → (d e u n : ℕ) → n ≤ d → n ≤ e → trees_up_to S d u n ≡ trees_up_to S e u n
unfolding trees_up_to
bound_free S two d e u zero k l = none_of_zero S two d u ∙ sym (none_of_zero S two e u)
bound_free S two zero e u (suc n) k l = absurd (omega arith)
bound_free S two (suc d) zero u (suc n) k l = absurd (omega arith)
bound_free S two (suc d) (suc e) u (suc n) k l =
    flat_map_each (λ t. trees_of_term (trees_up_to S d) (suc n) t (term_at S u t)) (λ t. trees_of_term (trees_up_to S e) (suc n) t (term_at S u t))
    (counting 0 (length (terms_at S u)))
    (λ t i. term_same (suc n) t (trees_up_to S d) (trees_up_to S e) (λ c m j. bound_free S two d e c m (omega arith) (omega arith)) (term_at S u t) (two u t))

-- the trees of an equation are those of its terms in turn, where a node's subtrees are trees of its children
pub trees_step : (S : System) → IsWellFormed S → (u n : ℕ)
    → trees S u n ≡ flat_map (λ t. trees_of_term (trees S) n t (term_at S u t)) (counting 0 (length (terms_at S u)))
unfolding trees trees_up_to
trees_step S w u n =
    bound_free S two n (suc n) u n (omega arith) (omega arith)
    ∙ flat_map_each (λ t. trees_of_term (trees_up_to S n) n t (term_at S u t)) (λ t. trees_of_term (trees S) n t (term_at S u t))
    (counting 0 (length (terms_at S u)))
    (λ t i. term_same n t (trees_up_to S n) (trees S) (λ c m j. bound_free S two n m c m (omega arith) (omega arith)) (term_at S u t) (two u t))
  where
    two : (u t : ℕ) → Branches (term_at S u t)
    two = nodes_branch S w
