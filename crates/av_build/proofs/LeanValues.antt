-- The trees of an equation that is kept have the values that they had: a term that is left out has no trees, and the others
-- have children that are kept.
use Rattle.std.proofs.Common.{◌≡◌, ℕ, zero, suc, Bool, true, false, cond, List, [], ◌∷◌, ◌++◌, map, length, filter, flat_map, get_or, slice_get, inl, inr, Some, refl, sym, ◌∙◌, ap, ap₂, subst, arith, true≢false}
use Rattle.std.proofs.lemmas.List.{length-map}
use Rattle.std.proofs.lemmas.List.Folds.{flat_map-map}
use Rattle.av_perm.specs.Lists.{before_each, products, size_lists}
use Rattle.av_perm.specs.Inflate.{inflate}
use Rattle.av_perm.specs.Members.{In}
use Rattle.av_perm.proofs.Membership.{Each, nil_from}
use Rattle.av_perm.proofs.GeneratedLists.{sizes_from}
use Rattle.av_perm.proofs.Tests.{all_fails}
use Rattle.av_perm.proofs.ListLaws.{get_In, flat_map_each}
use Rattle.av_sys.specs.declared.terms.Term.{Term}
use Rattle.av_sys.specs.declared.terms.Term.TheVariants.{Point, Node}
use Rattle.av_sys.specs.declared.terms.System.{System}
use Rattle.av_sys.specs.Terms.{terms_of, terms_at, children_of, IsWellFormed}
use Rattle.av_sys.specs.Trees.{value}
use Rattle.av_sys.specs.TreeLists.{trees_up_to, trees, members_at}
use Rattle.av_sys.proofs.TreeSizes.{nodes_branch}
use Rattle.av_sys.proofs.TreesFit.{trees_fit}
use Rattle.av_build.specs.Alive.{has_marked, alive_marks, alive}
use Rattle.av_build.specs.Lean.{live_terms, used, place_of, renumbered, lean_equation, lean_over}
use Rattle.av_build.proofs.AliveMarks.{tree_alive}
use Rattle.av_build.proofs.ListPlaces.{get_map}
use Rattle.av_build.proofs.FoundNumbers.{place_at}
use Rattle.av_build.proofs.KeptEquations.{child_used}
use Rattle.av_build.proofs.TermValues.{values_at, term_values, values_up_to, flat_nil, values_step}

-- elements that fail the test may be left out where they make nothing
flat_filter : {A B : Type 0} (f : A → List B) (test : A → Bool) (xs : List A) → ((x : A) → test x ≡ false → f x ≡ []) → flat_map f (filter test xs) ≡ flat_map f xs
flat_filter f test [] h = refl
flat_filter f test (x ∷ xs) h = by (test x) refl (flat_filter f test xs h)
  where
    by : (b : Bool) → test x ≡ b → flat_map f (filter test xs) ≡ flat_map f xs → flat_map f (cond b (x ∷ filter test xs) (filter test xs)) ≡ f x ++ flat_map f xs
    by true e rest = ap (λ l. f x ++ l) rest
    by false e rest = rest ∙ ap (λ l. l ++ flat_map f xs) (sym (h x e))

-- a list of lists of which one is empty has no products
no_products : (below : ℕ → ℕ → List (List ℕ)) (cs ns : List ℕ) (c : ℕ) → In c cs → length ns ≡ length cs → ((m : ℕ) → below c m ≡ [])
    → products (values_at below cs ns) ≡ []
unfolding products
no_products below [] ns c i l h = absurd i
no_products below (d ∷ cs) [] c i l h = absurd (omega arith)
no_products below (d ∷ cs) (n ∷ ns) c (inl e) l h =
    ap (flat_map (λ x. before_each x (products (values_at below cs ns)))) (subst (λ x. below x n ≡ []) e (h n))
no_products below (d ∷ cs) (n ∷ ns) c (inr i) l h =
    flat_nil (λ x. before_each x (products (values_at below cs ns))) (below d n) (λ x j. ap (before_each x) (no_products below cs ns c i (omega arith) h))

-- so a term with a child that has no values has none
no_values : (below : ℕ → ℕ → List (List ℕ)) (n : ℕ) (t : Term) (c : ℕ) → In c (children_of (Some t)) → ((m : ℕ) → below c m ≡ []) → term_values below n t ≡ []
no_values below n Point c i h = absurd i
no_values below n (Node root cs) c i h =
    flat_nil (λ ns. map (inflate root) (products (values_at below cs ns))) (size_lists (length cs) n)
    (λ ns j. ap (map (inflate root)) (no_products below cs ns c i (sizes_from (length cs) n ns j).long h))

-- equal lists for the children make equal lists for a term, also with other numbers for the children
values_renumbered : (below other : ℕ → ℕ → List (List ℕ)) (found cs ns : List ℕ) → Each (λ c. (m : ℕ) → below (place_of found c) m ≡ other c m) cs
    → values_at below (map (place_of found) cs) ns ≡ values_at other cs ns
values_renumbered below other found [] ns h = refl
values_renumbered below other found (c ∷ cs) [] h = refl
values_renumbered below other found (c ∷ cs) (n ∷ ns) h =
    ap₂ (λ (ws : List (List ℕ)) (wss : List (List (List ℕ))). ws ∷ wss) (h c (inl refl) n) (values_renumbered below other found cs ns (λ d i. h d (inr i)))

term_renumbered : (below other : ℕ → ℕ → List (List ℕ)) (found : List ℕ) (n : ℕ) (t : Term) → Each (λ c. (m : ℕ) → below (place_of found c) m ≡ other c m) (children_of (Some t))
    → term_values below n (renumbered found t) ≡ term_values other n t
term_renumbered below other found n Point h = refl
term_renumbered below other found n (Node root cs) h =
    ap (λ k. flat_map (inflated below (map (place_of found) cs)) (size_lists k n)) (length-map cs (place_of found))
    ∙ flat_map_each (inflated below (map (place_of found) cs)) (inflated other cs) (size_lists (length cs) n)
    (λ ns i. ap (λ l. map (inflate root) (products l)) (values_renumbered below other found cs ns h))
  where
    inflated : (ℕ → ℕ → List (List ℕ)) → List ℕ → List ℕ → List (List ℕ)
    inflated lists ds ns = map (inflate root) (products (values_at lists ds ns))

-- the terms of an equation that is kept
pub lean_terms : (S : System) (found : List ℕ) (v u : ℕ) → slice_get found v ≡ Some u → terms_at (lean_over S found) v ≡ map (renumbered found) (live_terms S u)
lean_terms S found v u e = ap terms_of (get_map (lean_equation S found) found v u e)

module _ (S : System) (form : IsWellFormed S) where
  -- an equation that isn't alive has no values
  dead_values : (d c : ℕ) → alive S c ≡ false → (m : ℕ) → values_up_to S d c m ≡ []
  dead_values d c dead m =
      ap (map (value S c)) (nil_from (trees_up_to S d c m) (λ T i. true≢false (sym (tree_alive S c T (trees_fit S (nodes_branch S form) d c m T i).tree) ∙ dead)))

  -- neither has a term that is left out
  dead_term : (d n : ℕ) (t : Term) → has_marked (alive_marks S.equations) t ≡ false → term_values (values_up_to S d) n t ≡ []
  dead_term d n t f =
      let r = all_fails (λ c. get_or (alive_marks S.equations) c false) (children_of (Some t)) f in
      no_values (values_up_to S d) n t r.0 r.1 (dead_values d r.0 r.2)

  module _ (found : List ℕ) (closed : (u : ℕ) → In u found → Each (λ c. In c found) (used S u)) where
    -- the values of the trees of an equation that is kept, of a size within some bound
    values_kept : (d v u n : ℕ) → slice_get found v ≡ Some u → values_up_to (lean_over S found) d v n ≡ values_up_to S d u n
    unfolding trees_up_to
    values_kept zero v u n e = refl
    values_kept (suc d) v u n e =
        values_step (lean_over S found) d v n
        ∙ ap (flat_map (term_values (values_up_to (lean_over S found) d) n)) (lean_terms S found v u e)
        ∙ flat_map-map (term_values (values_up_to (lean_over S found) d) n) (renumbered found) (live_terms S u)
        ∙ flat_map_each (λ t. term_values (values_up_to (lean_over S found) d) n (renumbered found t)) (term_values (values_up_to S d) n) (live_terms S u)
        (λ t i. term_renumbered (values_up_to (lean_over S found) d) (values_up_to S d) found n t
        (λ c j m. values_kept d (place_of found c) c m (place_at found c (closed u (get_In found v u e) c (child_used S u c t i j)))))
        ∙ flat_filter (term_values (values_up_to S d) n) (has_marked (alive_marks S.equations)) (terms_at S u) (dead_term d n)
        ∙ sym (values_step S d u n)

    -- so its trees of each size have the same list of values
    pub members_kept : (v u n : ℕ) → slice_get found v ≡ Some u → members_at (lean_over S found) v n ≡ members_at S u n
    unfolding members_at trees
    members_kept v u n e = values_kept n v u n e
