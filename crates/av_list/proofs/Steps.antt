-- Placing a vertex and taking one back, by what is left of the list of trees.
use Rattle.std.proofs.Common.{◌≡◌, ℕ, zero, suc, ◌+◌, ◌*◌, List, [], ◌∷◌, ◌++◌, map, length, flat_map, drop, refl, sym, ◌∙◌, ap, ap₂, arith, append_assoc}
use Rattle.std.proofs.lemmas.List.{length-map, map-append}
use Rattle.std.proofs.lemmas.Grind.{flat_map-append}
use Rattle.av_sys.specs.declared.terms.System.{System}
use Rattle.av_sys.specs.Terms.{IsWellFormed}
use Rattle.av_count.proofs.Choices.{map_before}
use Rattle.av_list.specs.declared.vertex.Vertex.{Vertex}
use Rattle.av_list.specs.declared.vertex.Due.{Due}
use Rattle.av_list.specs.Sizes.{weighed, Skips}
use Rattle.av_list.specs.Vertices.{vertices, vertices_after, children_at, trees_under, dues, dues_below, due}
use Rattle.av_list.specs.Remaining.{completions, completion_count, onto, from_vertex, later, left}
use Rattle.av_list.proofs.Skips.{skip_free}
use Rattle.av_list.proofs.Shapes.{completions_by_vertices, length_vertices}

-- as much is due as the vertex has children
pub length_dues : (cs ns : List ℕ) → length ns ≡ length cs → length (dues cs ns) ≡ length ns
length_dues [] [] e = refl
length_dues [] (n ∷ ns) e = absurd (omega arith)
length_dues (c ∷ cs) [] e = refl
length_dues (c ∷ cs) (n ∷ ns) e = ap suc (length_dues cs ns (omega arith))

-- what stands in front is dropped
pub drop_front : {X : Type 0} (xs ys : List X) (k : ℕ) → length xs ≡ k → drop k (xs ++ ys) ≡ ys
drop_front [] ys zero e = refl
drop_front [] ys (suc k) e = absurd (omega arith)
drop_front (x ∷ xs) ys zero e = absurd (omega arith)
drop_front (x ∷ xs) ys (suc k) e = drop_front xs ys k (omega arith)

-- without what is due below a vertex
pub drop_below : (S : System) (x : Vertex) (ds : List Due) → length x.sizes ≡ length (children_at S x) → drop (length x.sizes) (dues_below S x ++ ds) ≡ ds
drop_below S x ds e = drop_front (dues_below S x) ds (length x.sizes) (length_dues (children_at S x) x.sizes e)

-- the trees after those that begin with a vertex
pub later_at : (S : System) (x : Vertex) (xs : List Vertex) (ds : List Due) → length x.sizes ≡ length (children_at S x)
    → later S (x ∷ xs) (dues_below S x ++ ds) ≡ map (onto xs) (flat_map (from_vertex S ds) (vertices_after S x)) ++ later S xs (due x ∷ ds)
later_at S x xs ds e =
    ap (λ z. map (onto xs) (flat_map (from_vertex S z) (vertices_after S x)) ++ later S xs (due x ∷ z)) (drop_below S x ds e)

-- those from the first that begins with a vertex on
pub left_at : (S : System) (x : Vertex) (xs : List Vertex) (ds : List Due) → length x.sizes ≡ length (children_at S x)
    → left S (x ∷ xs) (dues_below S x ++ ds) ≡ map (onto xs) (flat_map (from_vertex S ds) (x ∷ vertices_after S x)) ++ later S xs (due x ∷ ds)
left_at S x xs ds e =
    ap₂ (λ a b. a ++ b) (sym (map_before (onto xs) x (completions S (dues_below S x ++ ds)))) (later_at S x xs ds e)
    ∙ sym (append_assoc (map (onto xs) (from_vertex S ds x)) (map (onto xs) (flat_map (from_vertex S ds) (vertices_after S x))) (later S xs (due x ∷ ds)))
    ∙ ap (λ z. z ++ later S xs (due x ∷ ds)) (sym (map-append (onto xs) (from_vertex S ds x) (flat_map (from_vertex S ds) (vertices_after S x))))

-- dropping more than what stands in front
drop_past : {X : Type 0} (xs ys : List X) (r l : ℕ) → l + length xs ≡ r → drop r (xs ++ ys) ≡ drop l ys
drop_past [] ys r l e = let f : r ≡ l = omega arith in rw f refl
drop_past (x ∷ xs) ys zero l e = absurd (omega arith)
drop_past (x ∷ xs) ys (suc r) l e = drop_past xs ys r l (omega arith)

-- a step along the vertices, as a step along the list of trees
skip_trees : (S : System) (xs zs : List Vertex) (ds : List Due) (ks ys : List Vertex) (rest : List (List Vertex)) (r l : ℕ) → Skips (trees_under S) (completion_count S ds) ks ys r l
    → drop r (map (onto xs) (flat_map (from_vertex S ds) ks) ++ rest) ≡ drop l (map (onto xs) (flat_map (from_vertex S ds) ys) ++ rest)
skip_trees S xs zs ds ks ys rest r l a =
    ap (λ z. drop r (z ++ rest)) (ap (λ z. map (onto xs) (flat_map (from_vertex S ds) z)) a.is ∙ ap (map (onto xs)) (flat_map-append (from_vertex S ds) a.front ys) ∙ map-append (onto xs) front (flat_map (from_vertex S ds) ys))
    ∙ ap (drop r) (append_assoc (map (onto xs) front) (map (onto xs) (flat_map (from_vertex S ds) ys)) rest)
    ∙ drop_past (map (onto xs) front) (map (onto xs) (flat_map (from_vertex S ds) ys) ++ rest) r l
    (ap (λ z. l + z) (length-map front (onto xs) ∙ length_vertices S ds a.front) ∙ a.place)
  where
    front : List (List Vertex)
    front = flat_map (from_vertex S ds) a.front

-- a vertex is placed for what is due next
pub place_step : (S : System) → IsWellFormed S → (x : Vertex) (xs : List Vertex) (ds : List Due) (r l : ℕ) → length x.sizes ≡ length (children_at S x)
    → Skips (trees_under S) (completion_count S ds) (vertices S x.equation x.size) (x ∷ vertices_after S x) r l
    → drop r (left S xs (due x ∷ ds)) ≡ drop l (left S (x ∷ xs) (dues_below S x ++ ds))
place_step S w x xs ds r l e a =
    ap (λ z. drop r (map (onto xs) z ++ later S xs (due x ∷ ds))) (completions_by_vertices S w x.equation x.size ds)
    ∙ skip_trees S xs [] ds (vertices S x.equation x.size) (x ∷ vertices_after S x) (later S xs (due x ∷ ds)) r l a
    ∙ ap (drop l) (sym (left_at S x xs ds e))

-- a vertex gives way to the next one for the same equation and size
pub move_step : (S : System) (x y : Vertex) (xs : List Vertex) (ds : List Due) → length x.sizes ≡ length (children_at S x) → length y.sizes ≡ length (children_at S y)
    → due y ≡ due x → Skips (trees_under S) 1 (vertices_after S x) (y ∷ vertices_after S y) 0 0
    → later S (x ∷ xs) (dues_below S x ++ ds) ≡ left S (y ∷ xs) (dues_below S y ++ ds)
move_step S x y xs ds e f same a =
    later_at S x xs ds e
    ∙ skip_trees S xs [] ds (vertices_after S x) (y ∷ vertices_after S y) (later S xs (due x ∷ ds)) 0 0 (skip_free (trees_under S) 1 (completion_count S ds) (vertices_after S x) (y ∷ vertices_after S y) 0 (omega arith) a)
    ∙ ap (λ z. map (onto xs) (flat_map (from_vertex S ds) (y ∷ vertices_after S y)) ++ later S xs (z ∷ ds)) (sym same)
    ∙ sym (left_at S y xs ds f)

-- a list of length 0 is empty
none_long : {X : Type 0} (xs : List X) → length xs ≡ 0 → xs ≡ []
none_long [] e = refl
none_long (x ∷ xs) e = absurd (omega arith)

-- a vertex without a next one is taken back
pub back_step : (S : System) (x : Vertex) (xs : List Vertex) (ds : List Due) → length x.sizes ≡ length (children_at S x) → weighed (trees_under S) (vertices_after S x) ≡ 0
    → later S (x ∷ xs) (dues_below S x ++ ds) ≡ later S xs (due x ∷ ds)
back_step S x xs ds e none =
    later_at S x xs ds e
    ∙ ap (λ z. map (onto xs) z ++ later S xs (due x ∷ ds)) (none_long (flat_map (from_vertex S ds) (vertices_after S x)) (length_vertices S ds (vertices_after S x) ∙ ap (λ z. completion_count S ds * z) none ∙ omega arith))
