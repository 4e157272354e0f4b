-- What is listed as a tree of an equation and a size is one.
use Rattle.std.proofs.Common.{◌≡◌, ℕ, zero, suc, Bool, true, false, ◌&&◌, ◌==◌, cond, List, [], ◌∷◌, map, length, inl, inr, refl, sym, ◌∙◌, subst, arith, eqb-true, Option, Some, None, is_some}
use Rattle.std.specs.List.{sum}
use Rattle.std.proofs.lemmas.Bool.{and_parts, and_from}
use Rattle.std.proofs.lemmas.List.Sums.{sum_by-cons}
use Rattle.av_perm.specs.Lists.{counting, size_lists}
use Rattle.av_perm.proofs.Membership.{Each, In_map, In_flat_map}
use Rattle.av_perm.proofs.GeneratedLists.{sizes_from}
use Rattle.av_sys.specs.declared.terms.Term.{Term}
use Rattle.av_sys.specs.declared.terms.Term.TheVariants.{Point, Node}
use Rattle.av_sys.specs.declared.terms.System.{System}
use Rattle.av_sys.specs.Terms.{terms_at, term_at, children_of}
use Rattle.av_sys.specs.Trees.{Tree, Trees, none, more, are_valid, sizes}
use Rattle.av_sys.specs.TreeLists.{tree_lists, at_sizes, trees_of_term, trees_up_to}
use Rattle.av_sys.specs.Laws.{IsTreeOfSize}
use Rattle.av_sys.proofs.TreeSizes.{Branches, node_size}

-- trees of the equations, of so many points together
record AreTreesOf (S : System) (us ns : List ℕ) (ts : Trees) : Type 0 where
  valid : are_valid S us ts ≡ true
  sized : sizes ts ≡ sum ns

-- a tree before a list of trees
more_fits : (S : System) (u n : ℕ) (us ns : List ℕ) (T : Tree) (ts : Trees) → IsTreeOfSize S u n T → AreTreesOf S us ns ts
    → AreTreesOf S (u ∷ us) (n ∷ ns) (more T.term T.subtrees ts)
unfolding are_valid sizes
more_fits S u n us ns T ts fit rest =
    let a = and_parts (is_some (term_at S u T.term)) (are_valid S (children_of (term_at S u T.term)) T.subtrees) fit.tree in
    record {
      valid =
          and_from (is_some (term_at S u T.term)) (are_valid S (children_of (term_at S u T.term)) T.subtrees && are_valid S us ts) a.0
          (and_from (are_valid S (children_of (term_at S u T.term)) T.subtrees) (are_valid S us ts) a.1 rest.valid);
      sized = omega (arith, fit.sized, rest.sized, sum_by-cons (λ (m : ℕ). m) n ns);
    }

-- the lists of trees
lists_fit : (S : System) (below : ℕ → ℕ → List Tree) → ((u n : ℕ) → Each (IsTreeOfSize S u n) (below u n))
    → (us ns : List ℕ) → length us ≡ length ns → Each (AreTreesOf S us ns) (tree_lists (at_sizes below us ns))
unfolding tree_lists are_valid sizes
lists_fit S below h [] [] e ts (inl f) = subst (AreTreesOf S [] []) (sym f) (record { valid = refl; sized = refl })
lists_fit S below h [] [] e ts (inr i) = absurd i
lists_fit S below h [] (n ∷ ns) e ts i = absurd (omega arith)
lists_fit S below h (u ∷ us) [] e ts i = absurd (omega arith)
lists_fit S below h (u ∷ us) (n ∷ ns) e ts i =
    let r = In_flat_map (λ T. map (more T.term T.subtrees) (tree_lists (at_sizes below us ns))) (below u n) ts i in
    let q = In_map (more r.0.term r.0.subtrees) (tree_lists (at_sizes below us ns)) ts r.2 in
    subst (AreTreesOf S (u ∷ us) (n ∷ ns)) (sym q.2)
    (more_fits S u n us ns r.0 q.0 (h u n r.0 r.1) (lists_fit S below h us ns (omega arith) q.0 q.1))

-- the trees of a term
term_fits : (S : System) (u n t : ℕ) (below : ℕ → ℕ → List Tree) → ((c m : ℕ) → Each (IsTreeOfSize S c m) (below c m))
    → (o : Option Term) → term_at S u t ≡ o → Branches o → Each (IsTreeOfSize S u n) (trees_of_term below n t o)
unfolding are_valid
term_fits S u n t below h None e two T i = absurd i
term_fits S u n t below h (Some Point) e two T i = by (n == 1) refl T i
  where
    by : (b : Bool) → (n == 1) ≡ b → Each (IsTreeOfSize S u n) (cond b (record { term = t; subtrees = none } ∷ []) [])
    by true one T (inl f) = subst (IsTreeOfSize S u n) (sym f) (record { tree = rw e refl; sized = sym (eqb-true n 1 one) })
    by true one T (inr i) = absurd i
    by false one T i = absurd i
term_fits S u n t below h (Some (Node root children)) e two T i =
    let r = In_flat_map (λ ns. map made (tree_lists (at_sizes below children ns))) (size_lists (length children) n) T i in
    let s = sizes_from (length children) n r.0 r.1 in
    let q = In_map made (tree_lists (at_sizes below children r.0)) T r.2 in
    let fit = lists_fit S below h children r.0 (sym s.long) q.0 q.1 in
    subst (IsTreeOfSize S u n) (sym q.2)
    (record { tree = rw e fit.valid; sized = node_size S children q.0 (omega (arith, two)) fit.valid ∙ fit.sized ∙ s.whole })
  where
    made : Trees → Tree
    made ts = record { term = t; subtrees = ts }

-- the trees of an equation
pub trees_fit : (S : System) → ((u t : ℕ) → Branches (term_at S u t)) → (d u n : ℕ) → Each (IsTreeOfSize S u n) (trees_up_to S d u n)
unfolding trees_up_to
trees_fit S two zero u n T i = absurd i
trees_fit S two (suc d) u n T i =
    let r = In_flat_map (λ t. trees_of_term (trees_up_to S d) n t (term_at S u t)) (counting 0 (length (terms_at S u))) T i in
    term_fits S u n r.0 (trees_up_to S d) (trees_fit S two d) (term_at S u r.0) refl (two u r.0) T r.2
