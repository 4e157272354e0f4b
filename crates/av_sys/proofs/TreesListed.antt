-- Each tree of an equation is listed at its size.
use Rattle.std.proofs.Common.{◌≡◌, ℕ, zero, suc, ◌≤◌, true, ◌&&◌, ◌==◌, cond, List, [], ◌∷◌, map, length, inl, inr, refl, sym, arith, true≢false, Option, Some, None, is_some}
use Rattle.std.specs.List.{sum}
use Rattle.std.proofs.lemmas.Bool.{and_parts}
use Rattle.std.proofs.lemmas.List.Sums.{sum_by-cons}
use Rattle.std.proofs.lemmas.Option.{slice_get_within}
use Rattle.av_perm.specs.Lists.{counting, size_lists}
use Rattle.av_perm.proofs.Membership.{In, Each, map_In, flat_map_In, counting_In}
use Rattle.av_perm.proofs.GeneratedLists.{sizes_to}
use Rattle.av_sys.specs.declared.terms.Term.{Term}
use Rattle.av_sys.specs.declared.terms.Term.TheVariants.{Point, Node}
use Rattle.av_sys.specs.declared.terms.System.{System}
use Rattle.av_sys.specs.Terms.{terms_at, term_at, children_of}
use Rattle.av_sys.specs.Trees.{Tree, Trees, none, more, are_valid, IsTree, sizes, size, size_over}
use Rattle.av_sys.specs.TreeLists.{tree_lists, at_sizes, trees_of_term, trees_up_to}
use Rattle.av_sys.proofs.TreeSizes.{sizes_of, sum_sizes, size_positive, sizes_positive, first_valid, others_valid, as_many, node_size, Branches}

-- no number is above the sum
below_sum : (ns : List ℕ) → Each (λ n. n ≤ sum ns) ns
below_sum [] n i = absurd i
below_sum (m ∷ ns) n (inl e) = omega (arith, sum_by-cons (λ (x : ℕ). x) m ns)
below_sum (m ∷ ns) n (inr i) = omega (arith, sum_by-cons (λ (x : ℕ). x) m ns, below_sum ns n i)

-- of two positive numbers or more each is less than the sum
pub less_than_sum : (ns : List ℕ) → 2 ≤ length ns → Each (λ n. 1 ≤ n) ns → Each (λ n. suc n ≤ sum ns) ns
less_than_sum [] two some n i = absurd i
less_than_sum (m ∷ []) two some n i = absurd (omega arith)
less_than_sum (m ∷ k ∷ ns) two some n (inl e) =
    omega (arith, sum_by-cons (λ (x : ℕ). x) m (k ∷ ns), sum_by-cons (λ (x : ℕ). x) k ns, some k (inr (inl refl)))
less_than_sum (m ∷ k ∷ ns) two some n (inr i) =
    omega (arith, sum_by-cons (λ (x : ℕ). x) m (k ∷ ns), some m (inl refl), below_sum (k ∷ ns) n i)

-- the list of the trees of each equation holds those up to a size
abbrev ListsUpTo : System → ℕ → (ℕ → ℕ → List Tree) → Type 0
ListsUpTo S d below = (u : ℕ) (T : Tree) → IsTree S u T → size T ≤ d → In T (below u (size T))

-- the lists of trees
lists_listed : (S : System) (d : ℕ) (below : ℕ → ℕ → List Tree) → ListsUpTo S d below
    → (us : List ℕ) (ts : Trees) → are_valid S us ts ≡ true → Each (λ n. n ≤ d) (sizes_of ts)
    → In ts (tree_lists (at_sizes below us (sizes_of ts)))
unfolding tree_lists are_valid
lists_listed S d below h [] none v small = inl refl
lists_listed S d below h [] (more t subtrees others) v small = absurd (true≢false (sym v))
lists_listed S d below h (u ∷ us) none v small = absurd (true≢false (sym v))
lists_listed S d below h (u ∷ us) (more t subtrees others) v small =
    flat_map_In (λ T. map (more T.term T.subtrees) (tree_lists (at_sizes below us (sizes_of others)))) (below u (size first)) first (more t subtrees others)
    (h u first (first_valid S u t us subtrees others v) (small (size first) (inl refl)))
    (map_In (more t subtrees) (tree_lists (at_sizes below us (sizes_of others))) others
    (lists_listed S d below h us others (others_valid S u t us subtrees others v) (λ n i. small n (inr i))))
  where
    first : Tree
    first = record { term = t; subtrees = subtrees }

-- the trees of a term
term_listed : (S : System) (d : ℕ) (below : ℕ → ℕ → List Tree) → ListsUpTo S d below
    → (T : Tree) (o : Option Term) → Branches o → (is_some o && are_valid S (children_of o) T.subtrees) ≡ true → size T ≤ suc d
    → In T (trees_of_term below (size T) T.term o)
unfolding are_valid
term_listed S d below h T None two v small = absurd (true≢false (sym v))
term_listed S d below h T (Some Point) two v small = by T.subtrees v
  where
    by : (ts : Trees) → are_valid S [] ts ≡ true
        → In {A = Tree} (record { term = T.term; subtrees = ts }) (cond (size_over ts (sizes ts) == 1) (record { term = T.term; subtrees = none } ∷ []) [])
    by none v = inl refl
    by (more t subtrees others) v = absurd (true≢false (sym v))
term_listed S d below h T (Some (Node root children)) two v small =
    flat_map_In (λ ns. map made (tree_lists (at_sizes below children ns))) (size_lists (length children) (size T)) (sizes_of T.subtrees) T
    (rw (← long, whole, ← sum_sizes T.subtrees) (sizes_to (sizes_of T.subtrees) (sizes_positive T.subtrees)))
    (map_In made (tree_lists (at_sizes below children (sizes_of T.subtrees))) T.subtrees (lists_listed S d below h children T.subtrees v
    (λ n i. omega (arith, less_than_sum (sizes_of T.subtrees) (omega (arith, long)) (sizes_positive T.subtrees) n i, whole, sum_sizes T.subtrees))))
  where
    made : Trees → Tree
    made ts = record { term = T.term; subtrees = ts }

    long : length (sizes_of T.subtrees) ≡ length children
    long = as_many S children T.subtrees v

    whole : size T ≡ sizes T.subtrees
    whole = node_size S children T.subtrees (omega (arith, two)) v

-- the trees of an equation
pub trees_listed : (S : System) → ((u t : ℕ) → Branches (term_at S u t)) → (d : ℕ) → ListsUpTo S d (trees_up_to S d)
unfolding trees_up_to
trees_listed S two zero u T v small = absurd (omega (arith, size_positive T.subtrees))
trees_listed S two (suc d) u T v small =
    flat_map_In (λ t. trees_of_term (trees_up_to S d) (size T) t (term_at S u t)) (counting 0 (length (terms_at S u))) T.term T
    (there (term_at S u T.term) refl (and_parts (is_some (term_at S u T.term)) (are_valid S (children_of (term_at S u T.term)) T.subtrees) v).0)
    (term_listed S d (trees_up_to S d) (trees_listed S two d) T (term_at S u T.term) (two u T.term) v small)
  where
    there : (o : Option Term) → term_at S u T.term ≡ o → is_some o ≡ true → In T.term (counting 0 (length (terms_at S u)))
    there None e k = absurd (true≢false (sym k))
    there (Some term) e k = counting_In (length (terms_at S u)) 0 T.term (omega arith) (omega (arith, slice_get_within (terms_at S u) T.term term e))
