-- The members of an equation by its terms, and the lists of subtrees by the numbers of trees.
use Rattle.std.proofs.Common.{◌≡◌, ℕ, zero, suc, ◌+◌, ◌*◌, ◌-◌, ◌≤◌, Bool, true, false, ◌==◌, cond, List, [], ◌∷◌, ◌++◌, map, length, flat_map, refl, sym, ◌∙◌, ap, ap₂, arith, Option, Some, None, length-append}
use Rattle.std.proofs.lemmas.List.{length-map}
use Rattle.av_perm.specs.Lists.{counting, before_each, size_lists, products}
use Rattle.av_perm.specs.Inflate.{inflate}
use Rattle.av_perm.proofs.ListLaws.{map_flat_map}
use Rattle.av_sys.specs.declared.terms.Term.{Term}
use Rattle.av_sys.specs.declared.terms.Term.TheVariants.{Point, Node}
use Rattle.av_sys.specs.declared.terms.System.{System}
use Rattle.av_sys.specs.Terms.{terms_at, term_at, IsWellFormed}
use Rattle.av_sys.specs.Trees.{Tree, Trees, none, more, values, value}
use Rattle.av_sys.specs.TreeLists.{tree_lists, at_sizes, trees_of_term, trees_up_to, trees, members_at, count_at}
use Rattle.av_sys.proofs.TreesStep.{trees_step}
use Rattle.av_count.specs.Choices.{lists_at, choice_lists, ways, ahead, sum_from}
use Rattle.av_count.specs.Members.{subtree_lists, term_words, term_ways}
use Rattle.av_count.proofs.Choices.{flat_map_same, map_same, length_choices, lengths}

-- a map over a map
pub map_map : {X Y Z : Type 0} (g : Y → Z) (f : X → Y) (xs : List X) → map g (map f xs) ≡ map (λ x. g (f x)) xs
map_map g f [] = refl
map_map g f (x ∷ xs) = ap (λ z. g (f x) ∷ z) (map_map g f xs)

-- lists made of mapped elements
pub flat_map_map : {X Y Z : Type 0} (g : Y → List Z) (f : X → Y) (xs : List X) → flat_map g (map f xs) ≡ flat_map (λ x. g (f x)) xs
flat_map_map g f [] = refl
flat_map_map g f (x ∷ xs) = ap (λ z. g (f x) ++ z) (flat_map_map g f xs)

-- an element put in front of each list, as a map
pub before_map : {X : Type 0} (x : X) (rs : List (List X)) → before_each x rs ≡ map (λ r. x ∷ r) rs
before_map x [] = refl
before_map x (r ∷ rs) = ap (λ z. (x ∷ r) ∷ z) (before_map x rs)

-- the values of lists of trees are the products of the values
pub lists_words : (S : System) (us ns : List ℕ) → map (values S us) (tree_lists (at_sizes (trees S) us ns)) ≡ products (lists_at (members_at S) us ns)
unfolding tree_lists values products members_at
lists_words S [] ns = refl
lists_words S (u ∷ us) [] = refl
lists_words S (u ∷ us) (n ∷ ns) =
    map_flat_map (values S (u ∷ us)) (λ T. map (more T.term T.subtrees) (tree_lists (at_sizes (trees S) us ns))) (trees S u n)
    ∙ flat_map_same _ (λ T. before_each (value S u T) (products (lists_at (members_at S) us ns))) (trees S u n)
    (λ T. map_map (values S (u ∷ us)) (more T.term T.subtrees) (tree_lists (at_sizes (trees S) us ns))
    ∙ sym (map_map (λ r. value S u T ∷ r) (values S us) (tree_lists (at_sizes (trees S) us ns)))
    ∙ ap (λ z. map (λ r. value S u T ∷ r) z) (lists_words S us ns)
    ∙ sym (before_map (value S u T) (products (lists_at (members_at S) us ns))))
    ∙ sym (flat_map_map (λ w. before_each w (products (lists_at (members_at S) us ns))) (value S u) (trees S u n))

-- the values of the lists of subtrees are the lists of choices of values
pub subtrees_words : (S : System) (cs : List ℕ) (n : ℕ) → map (values S cs) (subtree_lists S cs n) ≡ choice_lists (members_at S) cs n
unfolding subtree_lists choice_lists
subtrees_words S cs n =
    map_flat_map (values S cs) (λ ns. tree_lists (at_sizes (trees S) cs ns)) (size_lists (length cs) n)
    ∙ flat_map_same _ _ (size_lists (length cs) n) (λ ns. lists_words S cs ns)

-- the values of a term's trees are its words
pub term_values : (S : System) (u n t : ℕ) (o : Option Term) → term_at S u t ≡ o → map (value S u) (trees_of_term (trees S) n t o) ≡ term_words S n o
unfolding subtree_lists
term_values S u n t None e = refl
term_values S u n t (Some Point) e = by (n == 1)
  where
    by : (b : Bool) → map (value S u) (cond b (record { term = t; subtrees = none } ∷ []) []) ≡ cond b ((1 ∷ []) ∷ []) []
    by true = rw e refl
    by false = refl
term_values S u n t (Some (Node root cs)) e =
    map_flat_map (value S u) (λ ns. map (made t) (tree_lists (at_sizes (trees S) cs ns))) (size_lists (length cs) n)
    ∙ flat_map_same _ _ (size_lists (length cs) n)
    (λ ns. map_map (value S u) (made t) (tree_lists (at_sizes (trees S) cs ns))
    ∙ map_same (λ ts. value S u (made t ts)) (λ ts. inflate root (values S cs ts)) (tree_lists (at_sizes (trees S) cs ns)) (λ ts. at_node ts)
    ∙ sym (map_map (inflate root) (values S cs) (tree_lists (at_sizes (trees S) cs ns))))
    ∙ sym (map_flat_map (λ ts. inflate root ts) (λ ns. map (values S cs) (tree_lists (at_sizes (trees S) cs ns))) (size_lists (length cs) n))
    ∙ ap (λ z. map (inflate root) z) (sym (map_flat_map (values S cs) (λ ns. tree_lists (at_sizes (trees S) cs ns)) (size_lists (length cs) n)) ∙ subtrees_words S cs n)
  where
    made : ℕ → Trees → Tree
    made t ts = record { term = t; subtrees = ts }

    at_node : (ts : Trees) → value S u (record { term = t; subtrees = ts }) ≡ inflate root (values S cs ts)
    at_node ts = rw e refl

-- the words of an equation of a size are those of its terms in turn
pub members_by_terms : (S : System) → IsWellFormed S → (u n : ℕ)
    → members_at S u n ≡ flat_map (λ t. term_words S n (term_at S u t)) (counting 0 (length (terms_at S u)))
unfolding members_at
members_by_terms S w u n =
    ap (λ z. map (value S u) z) (trees_step S w u n)
    ∙ map_flat_map (value S u) (λ t. trees_of_term (trees S) n t (term_at S u t)) (counting 0 (length (terms_at S u)))
    ∙ flat_map_same _ _ (counting 0 (length (terms_at S u))) (λ t. term_values S u n t (term_at S u t) refl)

-- as many words as trees
pub count_members : (S : System) (u n : ℕ) → length (members_at S u n) ≡ count_at S u n
unfolding members_at count_at
count_members S u n = length-map (trees S u n) (value S u)

-- sums of equal numbers
ahead_same : (f g r s : ℕ → ℕ) → ((m : ℕ) → f m ≡ g m) → ((m : ℕ) → r m ≡ s m) → (n m k : ℕ) → ahead f r n m k ≡ ahead g s n m k
ahead_same f g r s h e n m zero = refl
ahead_same f g r s h e n m (suc k) = ap₂ (λ a b. a + b) (ap₂ (λ a b. a * b) (h m) (e (n - m))) (ahead_same f g r s h e n (suc m) k)

-- equal numbers of elements make equal numbers of lists
pub ways_same : (f g : ℕ → ℕ → ℕ) → ((c m : ℕ) → f c m ≡ g c m) → (cs : List ℕ) (n : ℕ) → ways f cs n ≡ ways g cs n
unfolding ways
ways_same f g h [] zero = refl
ways_same f g h [] (suc n) = refl
ways_same f g h (c ∷ cs) n = ahead_same (f c) (g c) (ways f cs) (ways g cs) (h c) (ways_same f g h cs) n 1 n

-- the number of the lists of words
pub length_words : (S : System) (cs : List ℕ) (n : ℕ) → length (choice_lists (members_at S) cs n) ≡ ways (count_at S) cs n
length_words S cs n = length_choices (members_at S) cs n ∙ ways_same (lengths (members_at S)) (count_at S) (count_members S) cs n

-- the number of the lists of subtrees
pub length_subtrees : (S : System) (cs : List ℕ) (n : ℕ) → length (subtree_lists S cs n) ≡ ways (count_at S) cs n
length_subtrees S cs n = sym (length-map (subtree_lists S cs n) (values S cs)) ∙ ap length (subtrees_words S cs n) ∙ length_words S cs n

-- the number of a term's words
pub length_term : (S : System) (n : ℕ) (o : Option Term) → length (term_words S n o) ≡ term_ways S n o
length_term S n None = refl
length_term S n (Some Point) = by (n == 1)
  where
    by : (b : Bool) → length {A = List ℕ} (cond b ((1 ∷ []) ∷ []) []) ≡ cond {A = ℕ} b 1 0
    by true = refl
    by false = refl
length_term S n (Some (Node root cs)) = length-map (choice_lists (members_at S) cs n) (inflate root) ∙ length_words S cs n

-- the length of lists joined, as a sum
pub length_from : {A : Type 0} (h : ℕ → List A) (f : ℕ → ℕ) → ((t : ℕ) → length (h t) ≡ f t) → (m k : ℕ) → length (flat_map h (counting m k)) ≡ sum_from f m k
length_from h f e m zero = refl
length_from h f e m (suc k) = length-append (h m) (flat_map h (counting (suc m) k)) ∙ ap₂ (λ a b. a + b) (e m) (length_from h f e (suc m) k)

-- the number of trees is the sum over the terms
pub count_by_terms : (S : System) → IsWellFormed S → (u n : ℕ) → count_at S u n ≡ sum_from (λ t. term_ways S n (term_at S u t)) 0 (length (terms_at S u))
count_by_terms S w u n =
    sym (count_members S u n) ∙ ap length (members_by_terms S w u n)
    ∙ length_from (λ t. term_words S n (term_at S u t)) (λ t. term_ways S n (term_at S u t)) (λ t. length_term S n (term_at S u t)) 0 (length (terms_at S u))

-- one number more at the end of a sum
pub sum_more : (f : ℕ → ℕ) (m k : ℕ) → sum_from f m (suc k) ≡ sum_from f m k + f (m + k)
sum_more f m zero = let e : m + 0 ≡ m = omega arith in rw e (omega arith)
sum_more f m (suc k) = let e : m + suc k ≡ suc m + k = omega arith in rw e (ap (λ z. f m + z) (sum_more f (suc m) k) ∙ omega arith)

-- one size more at the end
pub ahead_more : (f g : ℕ → ℕ) (n m k : ℕ) → ahead f g n m (suc k) ≡ ahead f g n m k + f (m + k) * g (n - (m + k))
ahead_more f g n m zero = let e : m + 0 ≡ m = omega arith in rw e (omega arith)
ahead_more f g n m (suc k) = let e : m + suc k ≡ suc m + k = omega arith in rw e (ap (λ z. f m * g (n - m) + z) (ahead_more f g n (suc m) k) ∙ omega arith)

-- no tree has size 0
pub count_none : (S : System) (u : ℕ) → count_at S u 0 ≡ 0
unfolding count_at trees trees_up_to
count_none S u = refl

-- children have no trees of size 0 together
pub ways_none : (f : ℕ → ℕ → ℕ) (cs : List ℕ) → 1 ≤ length cs → ways f cs 0 ≡ 0
unfolding ways
ways_none f [] h = absurd (omega arith)
ways_none f (c ∷ cs) h = refl

-- the number of lists by the size of the first child
pub ways_cons : (f : ℕ → ℕ → ℕ) (c : ℕ) (cs : List ℕ) (n : ℕ) → ways f (c ∷ cs) n ≡ ahead (f c) (ways f cs) n 1 n
unfolding ways
ways_cons f c cs n = refl

-- of two children or more the first is smaller
pub ways_two : (f : ℕ → ℕ → ℕ) (c : ℕ) (cs : List ℕ) (n : ℕ) → 1 ≤ length cs → ways f (c ∷ cs) (suc n) ≡ ahead (f c) (ways f cs) (suc n) 1 n
ways_two f c cs n h =
    ways_cons f c cs (suc n) ∙ ahead_more (f c) (ways f cs) (suc n) 1 n
    ∙ ap (λ z. ahead (f c) (ways f cs) (suc n) 1 n + f c (1 + n) * z) (ap (ways f cs) gone ∙ ways_none f cs h) ∙ omega arith
  where
    gone : suc n - (1 + n) ≡ 0
    gone = omega arith

-- no child has no trees of a size of at least 1
pub no_rest : (f : ℕ → ℕ → ℕ) (n : ℕ) → 1 ≤ n → ways f [] n ≡ 0
unfolding ways
no_rest f zero h = absurd (omega arith)
no_rest f (suc n) h = refl

-- so a last child has no other size than what is left
pub no_ahead : (f g : ℕ → ℕ) (n m k : ℕ) → m + k ≤ n → ((j : ℕ) → 1 ≤ j → g j ≡ 0) → ahead f g n m k ≡ 0
no_ahead f g n m zero h e = refl
no_ahead f g n m (suc k) h e = ap₂ (λ a b. f m * a + b) (e (n - m) (omega arith)) (no_ahead f g n (suc m) k (omega arith) e) ∙ omega arith

-- there is one empty list
rest_end : (f : ℕ → ℕ → ℕ) → ways f [] 0 ≡ 1
unfolding ways
rest_end f = refl

-- of one child there is its number
pub ways_one : (f : ℕ → ℕ → ℕ) (c n : ℕ) → f c 0 ≡ 0 → ways f (c ∷ []) n ≡ f c n
ways_one f c zero e = ways_none f (c ∷ []) (omega arith) ∙ sym e
ways_one f c (suc n) e =
    ways_cons f c [] (suc n) ∙ ahead_more (f c) (ways f []) (suc n) 1 n
    ∙ ap₂ (λ a b. a + f c (1 + n) * b) (no_ahead (f c) (ways f []) (suc n) 1 n (omega arith) (no_rest f)) (ap (ways f []) gone ∙ rest_end f)
    ∙ same (f c) n
  where
    gone : suc n - (1 + n) ≡ 0
    gone = omega arith

    same : (g : ℕ → ℕ) (n : ℕ) → 0 + g (1 + n) * 1 ≡ g (suc n)
    same g n = let h : 1 + n ≡ suc n = omega arith in rw h (omega arith)
