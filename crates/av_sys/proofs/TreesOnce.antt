-- No tree is listed twice, and so the lists of trees hold each tree of a size once.
use Rattle.std.proofs.Common.{◌≡◌, ℕ, zero, suc, Bool, true, false, ◌==◌, cond, List, [], ◌∷◌, map, length, inl, inr, refl, sym, ◌∙◌, ap, ap₂, subst, arith, Option, Some, None}
use Rattle.av_perm.specs.Members.{Once, IsListOf}
use Rattle.av_perm.specs.Lists.{counting, size_lists}
use Rattle.av_perm.proofs.Membership.{In, Each, In_map, In_flat_map}
use Rattle.av_perm.proofs.NoRepeats.{once_flat_map, once_counting}
use Rattle.av_perm.proofs.GeneratedLists.{sizes_from, sizes_once}
use Rattle.av_sys.specs.declared.terms.Term.{Term}
use Rattle.av_sys.specs.declared.terms.Term.TheVariants.{Point, Node}
use Rattle.av_sys.specs.declared.terms.System.{System}
use Rattle.av_sys.specs.Terms.{terms_at, term_at, IsWellFormed}
use Rattle.av_sys.specs.Trees.{Tree, Trees, none, more, size}
use Rattle.av_sys.specs.TreeLists.{tree_lists, at_sizes, trees_of_term, trees_up_to, trees}
use Rattle.av_sys.specs.Laws.{IsTreeOfSize, TreesLaw}
use Rattle.av_sys.proofs.TreeSizes.{sizes_of, Branches, nodes_branch}
use Rattle.av_sys.proofs.TreesFit.{trees_fit}
use Rattle.av_sys.proofs.TreesListed.{trees_listed}
use Rattle.av_sys.proofs.TreesStep.{trees_step}

-- a map by which things can be told from their images keeps elements single
once_map : {A B : Type 0} (key : B → A) (f : A → B) (xs : List A) → ((x : A) → key (f x) ≡ x) → Once xs → Once (map f xs)
once_map key f [] k o = tt
once_map key f (x ∷ xs) k o = (
  λ i. let r = In_map f xs (f x) i in o.0 (subst (λ y. In y xs) (sym (k r.0) ∙ ap key (sym r.2) ∙ k x) r.1),
  once_map key f xs k o.1,
)

-- the first tree of a list, where there is one
first_of_list : Trees → Tree
first_of_list none = record { term = 0; subtrees = none }
first_of_list (more t subtrees others) = record { term = t; subtrees = subtrees }

-- the trees after the first
others_of : Trees → Trees
others_of none = none
others_of (more t subtrees others) = others

-- the lists of trees
lists_once : (below : ℕ → ℕ → List Tree) → ((u n : ℕ) → Once (below u n)) → (us ns : List ℕ) → Once (tree_lists (at_sizes below us ns))
unfolding tree_lists first_of_list others_of
lists_once below h [] ns = (λ i. i, tt)
lists_once below h (u ∷ us) [] = (λ i. i, tt)
lists_once below h (u ∷ us) (n ∷ ns) =
    once_flat_map first_of_list (λ T. map (more T.term T.subtrees) (tree_lists (at_sizes below us ns))) (below u n) (h u n)
    (λ T i. once_map others_of (more T.term T.subtrees) (tree_lists (at_sizes below us ns)) (λ ts. refl) (lists_once below h us ns))
    (λ T ts i j. let r = In_map (more T.term T.subtrees) (tree_lists (at_sizes below us ns)) ts j in ap first_of_list r.2)

-- a list of trees tells the sizes that it was made for
lists_sizes : (below : ℕ → ℕ → List Tree) → ((u n : ℕ) → Each (λ T. size T ≡ n) (below u n))
    → (us ns : List ℕ) → length ns ≡ length us → Each (λ ts. sizes_of ts ≡ ns) (tree_lists (at_sizes below us ns))
unfolding tree_lists
lists_sizes below h [] [] e ts (inl f) = ap sizes_of f
lists_sizes below h [] [] e ts (inr i) = absurd i
lists_sizes below h [] (n ∷ ns) e ts i = absurd (omega arith)
lists_sizes below h (u ∷ us) [] e ts i = absurd (omega arith)
lists_sizes below h (u ∷ us) (n ∷ ns) e ts i =
    let r = In_flat_map (λ T. map (more T.term T.subtrees) (tree_lists (at_sizes below us ns))) (below u n) ts i in
    let q = In_map (more r.0.term r.0.subtrees) (tree_lists (at_sizes below us ns)) ts r.2 in
    ap sizes_of q.2 ∙ ap₂ (λ (m : ℕ) (ms : List ℕ). m ∷ ms) (h u n r.0 r.1) (lists_sizes below h us ns (omega arith) q.0 q.1)

-- the tree of a term number and its subtrees
made : ℕ → Trees → Tree
made t ts = record { term = t; subtrees = ts }

-- the trees of a term
term_once : (below : ℕ → ℕ → List Tree) → ((u n : ℕ) → Once (below u n)) → ((u n : ℕ) → Each (λ T. size T ≡ n) (below u n))
    → (n t : ℕ) (o : Option Term) → Once (trees_of_term below n t o)
unfolding made
term_once below h s n t None = tt
term_once below h s n t (Some Point) = by (n == 1)
  where
    by : (b : Bool) → Once {A = Tree} (cond b (record { term = t; subtrees = none } ∷ []) [])
    by true = (λ i. i, tt)
    by false = tt
term_once below h s n t (Some (Node root children)) =
    once_flat_map (λ (T : Tree). sizes_of T.subtrees) (λ ns. map (made t) (tree_lists (at_sizes below children ns))) (size_lists (length children) n)
    (sizes_once (length children) n)
    (λ ns i. once_map (λ (T : Tree). T.subtrees) (made t) (tree_lists (at_sizes below children ns)) (λ ts. refl) (lists_once below h children ns))
    (λ ns T i j. let r = In_map (made t) (tree_lists (at_sizes below children ns)) T j in
    ap (λ (U : Tree). sizes_of U.subtrees) r.2 ∙ lists_sizes below s children ns (sizes_from (length children) n ns i).long r.0 r.1)

-- they tell its number
term_told : (below : ℕ → ℕ → List Tree) (n t : ℕ) (o : Option Term) → Each (λ T. T.term ≡ t) (trees_of_term below n t o)
unfolding made
term_told below n t None T i = absurd i
term_told below n t (Some Point) T i = by (n == 1) i
  where
    by : (b : Bool) → In {A = Tree} T (cond b (record { term = t; subtrees = none } ∷ []) []) → T.term ≡ t
    by true (inl e) = ap (λ (U : Tree). U.term) e
    by true (inr i) = absurd i
    by false i = absurd i
term_told below n t (Some (Node root children)) T i =
    let r = In_flat_map (λ ns. map (made t) (tree_lists (at_sizes below children ns))) (size_lists (length children) n) T i in
    let q = In_map (made t) (tree_lists (at_sizes below children r.0)) T r.2 in
    ap (λ (U : Tree). U.term) q.2

-- the trees of an equation
trees_once : (S : System) → ((u t : ℕ) → Branches (term_at S u t)) → (d u n : ℕ) → Once (trees_up_to S d u n)
unfolding trees_up_to
trees_once S two zero u n = tt
trees_once S two (suc d) u n =
    once_flat_map (λ (T : Tree). T.term) (λ t. trees_of_term (trees_up_to S d) n t (term_at S u t)) (counting 0 (length (terms_at S u)))
    (once_counting (length (terms_at S u)) 0)
    (λ t i. term_once (trees_up_to S d) (trees_once S two d) (λ c m T j. (trees_fit S two d c m T j).sized) n t (term_at S u t))
    (λ t T i j. term_told (trees_up_to S d) n t (term_at S u t) T j)

-- the list of the trees of a size holds each of them once
trees_listed_once : (S : System) (u n : ℕ) → IsWellFormed S → IsListOf (IsTreeOfSize S u n) (trees S u n)
unfolding trees
trees_listed_once S u n w = record {
  members = λ T. (
    trees_fit S (nodes_branch S w) n u n T,
    λ f. subst (λ m. In T (trees_up_to S n u m)) f.sized (trees_listed S (nodes_branch S w) n u T f.tree (omega (arith, f.sized))),
  );
  once = trees_once S (nodes_branch S w) n u n;
}

-- and it is made of the terms in turn
pub trees_law : TreesLaw
trees_law S u n w = record { listed = trees_listed_once S u n w; step = trees_step S w u n }
