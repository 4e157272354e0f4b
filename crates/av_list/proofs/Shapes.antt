-- The trees of an equation and size, as lists of vertices, by their first vertex.
use Rattle.std.proofs.Common.{◌≡◌, ℕ, ◌+◌, ◌*◌, ◌≤◌, Bool, true, false, ◌==◌, cond, eqb-true, List, [], ◌∷◌, ◌++◌, map, length, flat_map, refl, sym, ◌∙◌, ap, ap₂, arith, append_assoc, length-append, true≢false, inl, inr, suc, Option, Some, None, is_some}
use Rattle.std.specs.List.{sum}
use Rattle.std.proofs.lemmas.Bool.{and_parts}
use Rattle.std.proofs.lemmas.List.{length-map, map-append}
use Rattle.std.proofs.lemmas.List.Sums.{sum_by-cons}
use Rattle.std.proofs.lemmas.Grind.{flat_map-append}
use Rattle.av_perm.specs.Lists.{counting, before_each, size_lists, products}
use Rattle.av_perm.proofs.Membership.{Each, In_map, In_flat_map, In_before}
use Rattle.av_perm.proofs.GeneratedLists.{IsSizes, sizes_from}
use Rattle.av_perm.proofs.ListLaws.{map_flat_map, flat_map_each}
use Rattle.av_sys.specs.declared.terms.Term.{Term}
use Rattle.av_sys.specs.declared.terms.Term.TheVariants.{Point, Node}
use Rattle.av_sys.specs.declared.terms.System.{System}
use Rattle.av_sys.specs.Terms.{terms_at, term_at, children_of, IsWellFormed}
use Rattle.av_sys.specs.Trees.{Tree, Trees, none, more, are_valid, sizes, size_over}
use Rattle.av_sys.specs.TreeLists.{trees, tree_lists, at_sizes, trees_of_term, count_at}
use Rattle.av_sys.proofs.TreeSizes.{sizes_of, first_valid, others_valid, Branches, nodes_branch}
use Rattle.av_sys.proofs.TreesStep.{trees_step}
use Rattle.av_sys.proofs.TreesOnce.{trees_law}
use Rattle.av_count.specs.Choices.{lists_at, pairs}
use Rattle.av_count.proofs.Choices.{flat_map_same, map_before, map_same, flat_map_flat_map, length_pairs, append_nil}
use Rattle.av_count.proofs.Members.{map_map, flat_map_map, before_map}
use Rattle.av_list.specs.declared.vertex.Vertex.{Vertex}
use Rattle.av_list.specs.declared.vertex.Due.{Due}
use Rattle.av_list.specs.Sizes.{sum_of, weight, weighed}
use Rattle.av_list.specs.Vertices.{vertex, vertices_of, vertices, children_at, trees_under, dues, dues_below}
use Rattle.av_list.specs.Remaining.{first_size, whole, in_turn, preorder_over, preorders, preorder, listed, completions, completion_count, from_vertex}

-- sizes of trees

-- a tree is as large as its subtrees together, and a point has size 1
pub whole_over : (ts : Trees) → whole (sizes_of ts) ≡ size_over ts (sizes ts)
unfolding sizes
whole_over none = refl
whole_over (more t sub others) = ap (λ z. size_over sub (sizes sub) + z) (all others)
  where
    all : (ts : Trees) → sum_of (sizes_of ts) ≡ sizes ts
    all none = refl
    all (more t sub others) = ap (λ z. size_over sub (sizes sub) + z) (all others)

-- the first vertices have the sizes of the trees
pub preorders_sizes : (S : System) (us : List ℕ) (ts : Trees) → are_valid S us ts ≡ true → map first_size (preorders S us ts) ≡ sizes_of ts
unfolding are_valid preorders
preorders_sizes S [] none v = refl
preorders_sizes S [] (more t sub others) v = absurd (true≢false (sym v))
preorders_sizes S (u ∷ us) none v = absurd (true≢false (sym v))
preorders_sizes S (u ∷ us) (more t sub others) v =
    let h = and_parts (is_some (term_at S u t)) (are_valid S (children_of (term_at S u t)) sub) (first_valid S u t us sub others v) in
    ap₂ (λ (a : ℕ) (b : List ℕ). a ∷ b) (ap whole (preorders_sizes S (children_of (term_at S u t)) sub h.1) ∙ whole_over sub) (preorders_sizes S us others (others_valid S u t us sub others v))

-- each list of vertices begins with one of the size asked
pub listed_sizes : (S : System) → IsWellFormed S → (u n : ℕ) → Each (λ xs. first_size xs ≡ n) (listed S u n)
unfolding listed
listed_sizes S w u n xs i =
    let q = In_map (preorder S u) (trees S u n) xs i in
    let f = ((trees_law S u n w).listed.members q.0).0 q.1 in
    let v = and_parts (is_some (term_at S u q.0.term)) (are_valid S (children_of (term_at S u q.0.term)) q.0.subtrees) f.tree in
    ap first_size q.2 ∙ ap whole (preorders_sizes S (children_of (term_at S u q.0.term)) q.0.subtrees v.1) ∙ whole_over q.0.subtrees ∙ f.sized

-- products

-- joining after a first block
in_turn_before : (x : List Vertex) (rs : List (List (List Vertex))) → map in_turn (before_each x rs) ≡ map (λ y. x ++ y) (map in_turn rs)
in_turn_before x rs = map_before in_turn x rs ∙ sym (map_map (λ y. x ++ y) in_turn rs)

-- one tree for each child, one after another: the ways to do what is due
pub in_turn_products : (S : System) (cs ns : List ℕ) → map in_turn (products (lists_at (listed S) cs ns)) ≡ completions S (dues cs ns)
unfolding products
in_turn_products S [] ns = refl
in_turn_products S (c ∷ cs) [] = refl
in_turn_products S (c ∷ cs) (n ∷ ns) =
    map_flat_map in_turn (λ x. before_each x (products (lists_at (listed S) cs ns))) (listed S c n)
    ∙ flat_map_same _ _ (listed S c n) (λ x. in_turn_before x (products (lists_at (listed S) cs ns)) ∙ ap (map (λ y. x ++ y)) (in_turn_products S cs ns))

-- each list of blocks has the sizes that it was made for
products_sizes : (S : System) → IsWellFormed S → (cs ns : List ℕ) → length ns ≡ length cs → Each (λ bs. map first_size bs ≡ ns) (products (lists_at (listed S) cs ns))
unfolding products
products_sizes S w [] [] e bs (inl f) = ap (map first_size) f
products_sizes S w [] [] e bs (inr i) = absurd i
products_sizes S w [] (n ∷ ns) e bs i = absurd (omega arith)
products_sizes S w (c ∷ cs) [] e bs i = absurd (omega arith)
products_sizes S w (c ∷ cs) (n ∷ ns) e bs i =
    let r = In_flat_map (λ x. before_each x (products (lists_at (listed S) cs ns))) (listed S c n) bs i in
    let q = In_before r.0 (products (lists_at (listed S) cs ns)) bs r.2 in
    ap (map first_size) q.2 ∙ ap₂ (λ (a : ℕ) (b : List ℕ). a ∷ b) (listed_sizes S w c n r.0 r.1) (products_sizes S w cs ns (omega arith) q.0 q.1)

-- the trees with these sizes below a vertex
vertex_products : (u n t : ℕ) (ns : List ℕ) (rs : List (List (List Vertex))) → whole ns ≡ n → Each (λ bs. map first_size bs ≡ ns) rs
    → map (preorder_over u t) rs ≡ before_each (vertex u n t ns) (map in_turn rs)
vertex_products u n t ns [] e h = refl
vertex_products u n t ns (bs ∷ rs) e h =
    let f : map first_size bs ≡ ns = h bs (inl refl) in
    ap₂ (λ (a : List Vertex) (b : List (List Vertex)). a ∷ b) (ap₂ (λ m ms. vertex u m t ms ∷ in_turn bs) (ap whole f ∙ e) f)
    (vertex_products u n t ns rs e (λ x i. h x (inr i)))

-- the two sums are one
sum_is : (ns : List ℕ) → sum_of ns ≡ sum ns
sum_is [] = refl
sum_is (n ∷ ns) = omega (arith, sum_by-cons (λ (m : ℕ). m) n ns, sum_is ns)

-- the whole of sizes with a sum
whole_sum : (k n : ℕ) (ns : List ℕ) → 1 ≤ k → IsSizes k n ns → whole ns ≡ n
whole_sum k n [] one s = absurd (omega (arith, s.long))
whole_sum k n (m ∷ ns) one s = sum_is (m ∷ ns) ∙ s.whole

-- the trees of a term, by their first vertex

-- the lists of subtrees, as lists of vertices
lists_preorders : (S : System) (us ns : List ℕ) → map (preorders S us) (tree_lists (at_sizes (trees S) us ns)) ≡ products (lists_at (listed S) us ns)
unfolding tree_lists preorders products listed
lists_preorders S [] ns = refl
lists_preorders S (u ∷ us) [] = refl
lists_preorders S (u ∷ us) (n ∷ ns) =
    map_flat_map (preorders S (u ∷ us)) (λ T. map (more T.term T.subtrees) (tree_lists (at_sizes (trees S) us ns))) (trees S u n)
    ∙ flat_map_same _ (λ T. before_each (preorder S u T) (products (lists_at (listed S) us ns))) (trees S u n)
    (λ T. map_map (preorders S (u ∷ us)) (more T.term T.subtrees) (tree_lists (at_sizes (trees S) us ns))
    ∙ sym (map_map (λ r. preorder S u T ∷ r) (preorders S us) (tree_lists (at_sizes (trees S) us ns)))
    ∙ ap (λ z. map (λ r. preorder S u T ∷ r) z) (lists_preorders S us ns)
    ∙ sym (before_map (preorder S u T) (products (lists_at (listed S) us ns))))
    ∙ sym (flat_map_map (λ x. before_each x (products (lists_at (listed S) us ns))) (preorder S u) (trees S u n))

-- so the trees that begin with a term
term_listed : (S : System) → IsWellFormed S → (u n t : ℕ) (o : Option Term) → term_at S u t ≡ o → Branches o
    → map (preorder S u) (trees_of_term (trees S) n t o) ≡ flat_map (from_vertex S []) (vertices_of u n t o)
unfolding preorders
term_listed S w u n t None e two = refl
term_listed S w u n t (Some Point) e two = by (n == 1) refl
  where
    by : (b : Bool) → (n == 1) ≡ b
        → map (preorder S u) (cond b (record { term = t; subtrees = none } ∷ []) []) ≡ flat_map (from_vertex S []) (cond b (vertex u n t [] ∷ []) [])
    by true one = rw (e, eqb-true n 1 one) refl
    by false one = refl
term_listed S w u n t (Some (Node root cs)) e two =
    map_flat_map (preorder S u) (λ ns. map made (tree_lists (at_sizes (trees S) cs ns))) (size_lists (length cs) n)
    ∙ flat_map_each _ _ (size_lists (length cs) n) (λ ns i. of_sizes ns (sizes_from (length cs) n ns i))
    ∙ sym (flat_map_map (from_vertex S []) (vertex u n t) (size_lists (length cs) n))
  where
    made : Trees → Tree
    made ts = record { term = t; subtrees = ts }

    at_node : (ts : Trees) → preorder S u (record { term = t; subtrees = ts }) ≡ preorder_over u t (preorders S cs ts)
    at_node ts = rw e refl

    of_sizes : (ns : List ℕ) → IsSizes (length cs) n ns → map (preorder S u) (map made (tree_lists (at_sizes (trees S) cs ns))) ≡ from_vertex S [] (vertex u n t ns)
    of_sizes ns s =
        map_map (preorder S u) made (tree_lists (at_sizes (trees S) cs ns))
        ∙ map_same (λ ts. preorder S u (made ts)) (λ ts. preorder_over u t (preorders S cs ts)) (tree_lists (at_sizes (trees S) cs ns)) (λ ts. at_node ts)
        ∙ sym (map_map (preorder_over u t) (preorders S cs) (tree_lists (at_sizes (trees S) cs ns)))
        ∙ ap (λ z. map (preorder_over u t) z) (lists_preorders S cs ns)
        ∙ vertex_products u n t ns (products (lists_at (listed S) cs ns)) (whole_sum (length cs) n ns (omega arith) s) (products_sizes S w cs ns s.long)
        ∙ ap (before_each (vertex u n t ns)) (in_turn_products S cs ns ∙ ap (completions S) (sym (append_nil (dues cs ns)) ∙ ap (λ z. dues (children_of z) ns ++ []) (sym e)))

-- all trees of an equation and size, by their first vertex
pub listed_by_vertices : (S : System) → IsWellFormed S → (u n : ℕ) → listed S u n ≡ flat_map (from_vertex S []) (vertices S u n)
unfolding listed
listed_by_vertices S w u n =
    ap (λ z. map (preorder S u) z) (trees_step S w u n)
    ∙ map_flat_map (preorder S u) (λ t. trees_of_term (trees S) n t (term_at S u t)) (counting 0 (length (terms_at S u)))
    ∙ flat_map_same _ _ (counting 0 (length (terms_at S u))) (λ t. term_listed S w u n t (term_at S u t) refl (nodes_branch S w u t))
    ∙ sym (flat_map_flat_map (from_vertex S []) (λ j. vertices_of u n j (term_at S u j)) (counting 0 (length (terms_at S u))))

-- what is due, one after another

-- pairs with two lists one after the other
pairs_append : {X : Type 0} (xs ys : List (List X)) (zs : List (List X)) → pairs (λ x y. x ++ y) (xs ++ ys) zs ≡ pairs (λ x y. x ++ y) xs zs ++ pairs (λ x y. x ++ y) ys zs
pairs_append xs ys zs = flat_map-append (λ x. map (λ y. x ++ y) zs) xs ys

-- pairs with a common front
pairs_map : {X : Type 0} (x : List X) (ys zs : List (List X)) → pairs (λ x y. x ++ y) (map (λ y. x ++ y) ys) zs ≡ map (λ y. x ++ y) (pairs (λ x y. x ++ y) ys zs)
pairs_map x [] zs = refl
pairs_map x (y ∷ ys) zs =
    ap₂ (λ a b. a ++ b) (map_same (λ z. (x ++ y) ++ z) (λ z. x ++ (y ++ z)) zs (λ z. append_assoc x y z) ∙ sym (map_map (λ z. x ++ z) (λ z. y ++ z) zs)) (pairs_map x ys zs)
    ∙ sym (map-append (λ z. x ++ z) (map (λ z. y ++ z) zs) (pairs (λ x y. x ++ y) ys zs))

-- pairs of pairs
pairs_assoc : {X : Type 0} (xs ys zs : List (List X)) → pairs (λ x y. x ++ y) (pairs (λ x y. x ++ y) xs ys) zs ≡ pairs (λ x y. x ++ y) xs (pairs (λ x y. x ++ y) ys zs)
pairs_assoc [] ys zs = refl
pairs_assoc (x ∷ xs) ys zs =
    pairs_append (map (λ y. x ++ y) ys) (pairs (λ x y. x ++ y) xs ys) zs
    ∙ ap₂ (λ a b. a ++ b) (pairs_map x ys zs) (pairs_assoc xs ys zs)

-- pairs with the empty list
pairs_unit : {X : Type 0} (zs : List (List X)) → pairs (λ x y. x ++ y) ([] ∷ []) zs ≡ zs
pairs_unit zs = append_nil (map (λ y. [] ++ y) zs) ∙ same zs
  where
    same : {X : Type 0} (zs : List (List X)) → map (λ y. [] ++ y) zs ≡ zs
    same [] = refl
    same (z ∷ zs) = ap (λ q. z ∷ q) (same zs)

-- first what is due in front, then the rest
pub completions_append : (S : System) (ds es : List Due) → completions S (ds ++ es) ≡ pairs (λ x y. x ++ y) (completions S ds) (completions S es)
completions_append S [] es = sym (pairs_unit (completions S es))
completions_append S (d ∷ ds) es =
    ap (pairs (λ x y. x ++ y) (listed S d.equation d.size)) (completions_append S ds es) ∙ sym (pairs_assoc (listed S d.equation d.size) (completions S ds) (completions S es))

-- pairs with a common first vertex
pairs_before : (x : Vertex) (ys zs : List (List Vertex)) → pairs (λ x y. x ++ y) (before_each x ys) zs ≡ before_each x (pairs (λ x y. x ++ y) ys zs)
pairs_before x ys zs =
    ap (λ q. pairs (λ x y. x ++ y) q zs) (before_map x ys) ∙ pairs_map (x ∷ []) ys zs ∙ sym (before_map x (pairs (λ x y. x ++ y) ys zs))

-- pairs with pieces one after another
pairs_flat : (f : Vertex → List (List Vertex)) (xs : List Vertex) (zs : List (List Vertex)) → pairs (λ x y. x ++ y) (flat_map f xs) zs ≡ flat_map (λ x. pairs (λ x y. x ++ y) (f x) zs) xs
pairs_flat f xs zs = flat_map_flat_map (λ x. map (λ y. x ++ y) zs) f xs

-- the ways to do what is due, by the first vertex
pub completions_by_vertices : (S : System) → IsWellFormed S → (u n : ℕ) (ds : List Due)
    → completions S (record { equation = u; size = n } ∷ ds) ≡ flat_map (from_vertex S ds) (vertices S u n)
completions_by_vertices S w u n ds =
    ap (λ z. pairs (λ x y. x ++ y) z (completions S ds)) (listed_by_vertices S w u n)
    ∙ pairs_flat (from_vertex S []) (vertices S u n) (completions S ds)
    ∙ flat_map_same _ _ (vertices S u n) (λ x.
    pairs_before x (completions S (dues_below S x ++ [])) (completions S ds)
    ∙ ap (before_each x) (ap (λ z. pairs (λ x y. x ++ y) (completions S z) (completions S ds)) (append_nil (dues_below S x)) ∙ sym (completions_append S (dues_below S x) ds)))

-- how many

-- as many as there are trees
pub length_listed : (S : System) (u n : ℕ) → length (listed S u n) ≡ count_at S u n
unfolding listed count_at
length_listed S u n = length-map (trees S u n) (preorder S u)

-- as many ways as the numbers say
pub length_completions : (S : System) (ds : List Due) → length (completions S ds) ≡ completion_count S ds
length_completions S [] = refl
length_completions S (d ∷ ds) = length_pairs (λ x y. x ++ y) (listed S d.equation d.size) (completions S ds) ∙ ap₂ (λ a b. a * b) (length_listed S d.equation d.size) (length_completions S ds)

-- the number of ways in two parts
pub number_append : (S : System) (ds es : List Due) → completion_count S (ds ++ es) ≡ completion_count S ds * completion_count S es
number_append S [] es = omega arith
number_append S (d ∷ ds) es = ap (λ z. count_at S d.equation d.size * z) (number_append S ds es) ∙ three (count_at S d.equation d.size) (completion_count S ds) (completion_count S es)
  where
    three : (a b c : ℕ) → a * (b * c) ≡ a * b * c
    three a b c = omega arith

-- the number of ways below a vertex is its weight
pub number_dues : (S : System) (cs ns : List ℕ) → completion_count S (dues cs ns) ≡ weight (count_at S) cs ns
number_dues S [] ns = refl
number_dues S (c ∷ cs) [] = refl
number_dues S (c ∷ cs) (n ∷ ns) = ap (λ z. count_at S c n * z) (number_dues S cs ns)

-- a first element for each changes no number
length_before : {X : Type 0} (x : X) (rs : List (List X)) → length (before_each x rs) ≡ length rs
length_before x [] = refl
length_before x (r ∷ rs) = ap suc (length_before x rs)

-- how many trees begin with a vertex, once for each way to go on after it
pub length_from_vertex : (S : System) (ds : List Due) (x : Vertex) → length (from_vertex S ds x) ≡ completion_count S ds * trees_under S x
length_from_vertex S ds x =
    length_before x (completions S (dues_below S x ++ ds)) ∙ length_completions S (dues_below S x ++ ds) ∙ number_append S (dues_below S x) ds
    ∙ ap (λ z. z * completion_count S ds) (number_dues S (children_at S x) x.sizes) ∙ swap (trees_under S x) (completion_count S ds)
  where
    swap : (a b : ℕ) → a * b ≡ b * a
    swap a b = omega arith

-- how many trees begin with the vertices of a list
pub length_vertices : (S : System) (ds : List Due) (xs : List Vertex) → length (flat_map (from_vertex S ds) xs) ≡ completion_count S ds * weighed (trees_under S) xs
length_vertices S ds [] = omega arith
length_vertices S ds (x ∷ xs) =
    length-append (from_vertex S ds x) (flat_map (from_vertex S ds) xs) ∙ ap₂ (λ a b. a + b) (length_from_vertex S ds x) (length_vertices S ds xs)
    ∙ out (completion_count S ds) (trees_under S x) (weighed (trees_under S) xs)
  where
    out : (k a b : ℕ) → k * a + k * b ≡ k * (a + b)
    out k a b = omega arith
