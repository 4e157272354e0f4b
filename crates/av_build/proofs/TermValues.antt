-- The values of the trees of an equation of a size, made of its terms and the values of the trees of their children.
use Rattle.std.proofs.Common.{◌≡◌, ℕ, suc, ◌+◌, ◌==◌, arith, Bool, true, false, cond, List, [], ◌∷◌, ◌++◌, map, length, flat_map, slice_get, inl, inr, Option, Some, None, refl, sym, ◌∙◌, ap, ap₂}
use Rattle.std.proofs.lemmas.List.Folds.{flat_map-map}
use Rattle.av_perm.specs.Lists.{counting, before_each, products, size_lists}
use Rattle.av_perm.specs.Inflate.{inflate}
use Rattle.av_perm.proofs.Membership.{Each}
use Rattle.av_perm.proofs.ListLaws.{flat_map_each, map_flat_map}
use Rattle.av_sys.specs.declared.terms.Term.{Term}
use Rattle.av_sys.specs.declared.terms.Term.TheVariants.{Point, Node}
use Rattle.av_sys.specs.declared.terms.System.{System}
use Rattle.av_sys.specs.Terms.{terms_at, term_at}
use Rattle.av_sys.specs.Trees.{Tree, Trees, none, more, value, values}
use Rattle.av_sys.specs.TreeLists.{tree_lists, at_sizes, trees_of_term, trees_up_to}
use Rattle.av_sys.proofs.Subtrees.{term_value}

-- the lists of values that `below` gives for each child and its size
abbrev pub values_at : (ℕ → ℕ → List (List ℕ)) → List ℕ → List ℕ → List (List (List ℕ))
values_at below [] sizes = []
values_at below (c ∷ children) [] = []
values_at below (c ∷ children) (n ∷ sizes) = below c n ∷ values_at below children sizes

-- the values of the trees of size n of a term, where `below` gives those of the children
abbrev pub term_values : (ℕ → ℕ → List (List ℕ)) → ℕ → Term → List (List ℕ)
term_values below n Point = cond (n == 1) ((1 ∷ []) ∷ []) []
term_values below n (Node root children) = flat_map (λ ns. map (inflate root) (products (values_at below children ns))) (size_lists (length children) n)

-- the values of the trees of equation u of size n, which is at most d
abbrev pub values_up_to : System → ℕ → ℕ → ℕ → List (List ℕ)
values_up_to S d u n = map (value S u) (trees_up_to S d u n)

-- nothing is made of elements none of which makes something
pub flat_nil : {A B : Type 0} (f : A → List B) (xs : List A) → Each (λ x. f x ≡ []) xs → flat_map f xs ≡ []
flat_nil f [] h = refl
flat_nil {B = B} f (x ∷ xs) h = ap₂ (λ (ys zs : List B). ys ++ zs) (h x (inl refl)) (flat_nil f xs (λ y i. h y (inr i)))

-- the elements of a list by their places
by_places : {A B : Type 0} (f : Option A → List B) (xs : List A) (lo : ℕ) (ys : List A) → ((t : ℕ) → slice_get ys (lo + t) ≡ slice_get xs t)
    → flat_map (λ t. f (slice_get ys t)) (counting lo (length xs)) ≡ flat_map (λ x. f (Some x)) xs
by_places f [] lo ys h = refl
by_places {B = B} f (x ∷ xs) lo ys h =
    ap₂ (λ (zs ws : List B). zs ++ ws) (ap f (ap (slice_get ys) (omega arith) ∙ h 0))
    (by_places f xs (suc lo) ys (λ t. ap (slice_get ys) (omega arith) ∙ h (suc t)))

module _ (S : System) where
  -- the values of the trees of a list that begins with one tree
  before_values : (c : ℕ) (cs : List ℕ) (T : Tree) (tss : List Trees) → map (values S (c ∷ cs)) (map (more T.term T.subtrees) tss) ≡ before_each (value S c T) (map (values S cs) tss)
  unfolding values
  before_values c cs T [] = refl
  before_values c cs T (ts ∷ tss) = ap (λ l. (value S c T ∷ values S cs ts) ∷ l) (before_values c cs T tss)

  -- the values of lists of trees are lists of their values
  lists_values : (below : ℕ → ℕ → List Tree) (cs ns : List ℕ) → map (values S cs) (tree_lists (at_sizes below cs ns)) ≡ products (values_at (λ c n. map (value S c) (below c n)) cs ns)
  unfolding values tree_lists products
  lists_values below [] ns = refl
  lists_values below (c ∷ cs) [] = refl
  lists_values below (c ∷ cs) (n ∷ ns) =
      map_flat_map (values S (c ∷ cs)) (λ T. map (more T.term T.subtrees) rest) (below c n)
      ∙ flat_map_each (λ T. map (values S (c ∷ cs)) (map (more T.term T.subtrees) rest)) (λ T. before_each (value S c T) others) (below c n)
      (λ T i. before_values c cs T rest ∙ ap (before_each (value S c T)) (lists_values below cs ns))
      ∙ sym (flat_map-map (λ v. before_each v others) (value S c) (below c n))
    where
      rest : List Trees
      rest = tree_lists (at_sizes below cs ns)

      others : List (List (List ℕ))
      others = products (values_at (λ c n. map (value S c) (below c n)) cs ns)

  -- the values of the trees of a term
  values_of_term : (u n t : ℕ) (below : ℕ → ℕ → List Tree) (x : Term) → term_at S u t ≡ Some x
      → map (value S u) (trees_of_term below n t (Some x)) ≡ term_values (λ c m. map (value S c) (below c m)) n x
  values_of_term u n t below Point e = by (n == 1)
    where
      by : (b : Bool) → map (value S u) (cond b (record { term = t; subtrees = none } ∷ []) []) ≡ cond b ((1 ∷ []) ∷ []) []
      by true = ap (λ w. w ∷ []) (term_value S u t Point none e)
      by false = refl
  values_of_term u n t below (Node root cs) e =
      map_flat_map (value S u) (λ ns. map made (tree_lists (at_sizes below cs ns))) (size_lists (length cs) n)
      ∙ flat_map_each (λ ns. map (value S u) (map made (tree_lists (at_sizes below cs ns))))
      (λ ns. map (inflate root) (products (values_at (λ c m. map (value S c) (below c m)) cs ns))) (size_lists (length cs) n)
      (λ ns i. inflated (tree_lists (at_sizes below cs ns)) ∙ ap (map (inflate root)) (lists_values below cs ns))
    where
      made : Trees → Tree
      made ts = record { term = t; subtrees = ts }

      inflated : (tss : List Trees) → map (value S u) (map (λ ts. record { term = t; subtrees = ts }) tss) ≡ map (inflate root) (map (values S cs) tss)
      inflated [] = refl
      inflated (ts ∷ tss) = ap₂ (λ (w : List ℕ) (ws : List (List ℕ)). w ∷ ws) (term_value S u t (Node root cs) ts e) (inflated tss)

  -- the values of the trees of an equation are those of its terms in turn
  pub values_step : (d u n : ℕ) → values_up_to S (suc d) u n ≡ flat_map (term_values (values_up_to S d) n) (terms_at S u)
  unfolding trees_up_to
  values_step d u n =
      map_flat_map (value S u) (λ t. trees_of_term (trees_up_to S d) n t (term_at S u t)) (counting 0 (length (terms_at S u)))
      ∙ flat_map_each (λ t. map (value S u) (trees_of_term (trees_up_to S d) n t (term_at S u t))) (λ t. some_values (term_at S u t)) (counting 0 (length (terms_at S u)))
      (λ t i. at_term t (term_at S u t) refl)
      ∙ by_places some_values (terms_at S u) 0 (terms_at S u) (λ t. ap (slice_get (terms_at S u)) (omega arith))
    where
      some_values : Option Term → List (List ℕ)
      some_values None = []
      some_values (Some x) = term_values (values_up_to S d) n x

      at_term : (t : ℕ) (o : Option Term) → term_at S u t ≡ o → map (value S u) (trees_of_term (trees_up_to S d) n t o) ≡ some_values o
      at_term t None e = refl
      at_term t (Some x) e = values_of_term u n t (trees_up_to S d) x e
