-- How many vertices are placed and how much is due, and what holds of each due.
use Rattle.std.proofs.Common.{◌≡◌, ℕ, zero, suc, ◌+◌, ◌*◌, ◌<◌, ◌≤◌, List, [], ◌∷◌, ◌++◌, length, drop, reverse, get_or, refl, sym, ◌∙◌, ap, ap₂, subst, arith, append_assoc, length-append, ◌⊎◌, inl, inr, Option, Some, None}
use Rattle.av_sys.specs.declared.terms.Term.{Term}
use Rattle.av_sys.specs.declared.terms.Term.TheVariants.{Point, Node}
use Rattle.av_sys.specs.declared.terms.System.{System}
use Rattle.av_sys.specs.Terms.{terms_at, term_at, children_of, IsWellFormed}
use Rattle.std.proofs.lemmas.Grind.{reverse_onto}
use Rattle.av_sys.specs.TreeLists.{count_at}
use Rattle.av_count.proofs.Members.{count_none}
use Rattle.av_list.specs.declared.vertex.Vertex.{Vertex}
use Rattle.av_list.specs.declared.vertex.Due.{Due}
use Rattle.av_list.specs.Sizes.{sum_of, weight}
use Rattle.av_list.specs.Vertices.{vertices, vertices_after, children_at, trees_under, dues, dues_below, due}
use Rattle.av_list.specs.Remaining.{whole, completion_count, onto}
use Rattle.av_list.specs.Derivations.{Sound, Derives, due_sizes, load, IsDue, EachDue, Completes}
use Rattle.av_list.specs.Picked.{Picked}
use Rattle.av_list.proofs.Shapes.{number_append}
use Rattle.av_list.proofs.Steps.{length_dues, drop_below}
use Rattle.av_list.proofs.Products.{both_some, left_some, right_some}
use Rattle.av_count.proofs.NodeForms.{node_form}

-- the children's equations: none, or two at least, each one of the system
pub record Arity (S : System) (x : Vertex) : Type 0 where
  pub two : (length (children_at S x) ≡ 0) ⊎ (2 ≤ length (children_at S x))
  pub known : (k : ℕ) → k < length (children_at S x) → get_or (children_at S x) k 0 < length S.equations

-- a vertex without children
no_children : (S : System) (x : Vertex) → length (children_at S x) ≡ 0 → Arity S x
no_children S x e = record { two = inl e; known = λ k h. absurd (omega arith) }

-- the children of any vertex
pub arity : (S : System) → IsWellFormed S → (x : Vertex) → Arity S x
arity S w x = by (term_at S x.equation x.term) refl
  where
    by : (o : Option Term) → term_at S x.equation x.term ≡ o → Arity S x
    by None e = no_children S x (ap (λ o. length (children_of o)) e)
    by (Some Point) e = no_children S x (ap (λ o. length (children_of o)) e)
    by (Some (Node root cs)) e =
        let g = node_form S x.equation x.term root cs w e in
        let c : children_at S x ≡ cs = ap children_of e in
        record { two = inr (omega (arith, ap length c, g.two)); known = subst (λ z. (k : ℕ) → k < length z → get_or z k 0 < length S.equations) (sym c) g.known }

-- what is due in two parts
pub due_sizes_append : (ds es : List Due) → due_sizes (ds ++ es) ≡ due_sizes ds + due_sizes es
due_sizes_append [] es = omega arith
due_sizes_append (d ∷ ds) es = omega (arith, due_sizes_append ds es)

-- what is due below a vertex has its sizes
due_sizes_dues : (cs ns : List ℕ) → length ns ≡ length cs → due_sizes (dues cs ns) ≡ sum_of ns
due_sizes_dues [] [] e = refl
due_sizes_dues [] (n ∷ ns) e = absurd (omega arith)
due_sizes_dues (c ∷ cs) [] e = refl
due_sizes_dues (c ∷ cs) (n ∷ ns) e = ap (λ z. n + z) (due_sizes_dues cs ns (omega arith))

-- how much is due below a vertex: nothing below a tree of size 1, else its whole size, on two places at least
pub below_load : (S : System) → IsWellFormed S → (x : Vertex) → Sound S x
    → ((length (dues_below S x) ≡ 0) × (due_sizes (dues_below S x) ≡ 0) × (x.size ≡ 1)) ⊎ ((2 ≤ length (dues_below S x)) × (due_sizes (dues_below S x) ≡ x.size))
below_load S w x s = by (arity S w x).two
  where
    long : length (dues_below S x) ≡ length x.sizes
    long = length_dues (children_at S x) x.sizes s.many

    sum : due_sizes (dues_below S x) ≡ sum_of x.sizes
    sum = due_sizes_dues (children_at S x) x.sizes s.many

    empty : (ns : List ℕ) → length ns ≡ 0 → (sum_of ns ≡ 0) × (whole ns ≡ 1)
    empty [] e = (refl, refl)
    empty (n ∷ ns) e = absurd (omega arith)

    more : (ns : List ℕ) → 2 ≤ length ns → whole ns ≡ sum_of ns
    more [] e = absurd (omega arith)
    more (n ∷ ns) e = refl

    by : ((length (children_at S x) ≡ 0) ⊎ (2 ≤ length (children_at S x)))
        → ((length (dues_below S x) ≡ 0) × (due_sizes (dues_below S x) ≡ 0) × (x.size ≡ 1)) ⊎ ((2 ≤ length (dues_below S x)) × (due_sizes (dues_below S x) ≡ x.size))
    by (inl none) = let z = empty x.sizes (omega (arith, s.many)) in inl (omega (arith, long, s.many), omega (arith, sum, z.0), omega (arith, z.1, s.sum))
    by (inr two) = let m = more x.sizes (omega (arith, s.many)) in inr (omega (arith, long, s.many), omega (arith, sum, m, s.sum))

-- a tree of size n has at most 2 n - 1 vertices
pub record Rooms (n : ℕ) (xs : List Vertex) (ds : List Due) : Type 0 where
  pub sum : due_sizes ds ≤ n
  pub long : length xs + 2 * due_sizes ds + 1 ≤ 2 * n + length ds

-- one vertex more
room_step : (S : System) → IsWellFormed S → (n : ℕ) (x : Vertex) (xs : List Vertex) (ds rest : List Due) → Sound S x → ds ≡ dues_below S x ++ rest → Rooms n xs (due x ∷ rest) → Rooms n (x ∷ xs) ds
room_step S w n x xs ds rest s e r = by (below_load S w x s)
  where
    a : due_sizes ds ≡ due_sizes (dues_below S x) + due_sizes rest
    a = ap due_sizes e ∙ due_sizes_append (dues_below S x) rest

    b : length ds ≡ length (dues_below S x) + length rest
    b = ap length e ∙ length-append (dues_below S x) rest

    by : (((length (dues_below S x) ≡ 0) × (due_sizes (dues_below S x) ≡ 0) × (x.size ≡ 1)) ⊎ ((2 ≤ length (dues_below S x)) × (due_sizes (dues_below S x) ≡ x.size))) → Rooms n (x ∷ xs) ds
    by (inl h) = record { sum = omega (arith, a, r.sum, h.0, h.1, h.2); long = omega (arith, a, b, r.long, h.0, h.1, h.2) }
    by (inr h) = record { sum = omega (arith, a, r.sum, h.0, h.1); long = omega (arith, a, b, r.long, h.0, h.1) }

-- what came has room
pub derives_room : (S : System) → IsWellFormed S → (n : ℕ) → 1 ≤ n → (xs : List Vertex) (ds : List Due) → Derives S n xs ds → Rooms n xs ds
derives_room S w n one [] ds e = rw e (record { sum = omega arith; long = omega arith })
derives_room S w n one (x ∷ xs) ds c = room_step S w n x xs ds c.1.0 c.0 c.1.1 (derives_room S w n one xs (due x ∷ c.1.0) c.1.2)

-- each due is of an equation, of a size from 1 to n, and has a tree

-- there is no tree of size 0
some_size : (S : System) (u n : ℕ) → 0 < count_at S u n → 1 ≤ n
some_size S u zero p = absurd (let e = count_none S u in omega arith)
some_size S u (suc n) p = omega arith

-- both parts
pub due_append : (S : System) (n : ℕ) (ds es : List Due) → EachDue S n ds → EachDue S n es → EachDue S n (ds ++ es)
due_append S n [] es a b = b
due_append S n (d ∷ ds) es a b = (a.0, due_append S n ds es a.1 b)

-- the second part
pub due_rest : (S : System) (n : ℕ) (ds es : List Due) → EachDue S n (ds ++ es) → EachDue S n es
due_rest S n [] es h = h
due_rest S n (d ∷ ds) es h = due_rest S n ds es h.1

-- the first part
pub due_front : (S : System) (n : ℕ) (ds es : List Due) → EachDue S n (ds ++ es) → EachDue S n ds
due_front S n [] es h = tt
due_front S n (d ∷ ds) es h = (h.0, due_front S n ds es h.1)

-- in either order
pub due_reverse : (S : System) (n : ℕ) (ds : List Due) → EachDue S n ds → EachDue S n (reverse ds)
due_reverse S n [] h = tt
due_reverse S n (d ∷ ds) h = subst (EachDue S n) (sym (reverse_onto ds d [])) (due_append S n (reverse ds) (d ∷ []) (due_reverse S n ds h.1) (h.0, tt))

-- at a place
pub due_at : (S : System) (n : ℕ) (ds : List Due) (k : ℕ) (d : Due) → EachDue S n ds → k < length ds → IsDue S n (get_or ds k d)
due_at S n [] k d h lt = absurd (omega arith)
due_at S n (e ∷ ds) zero d h lt = h.0
due_at S n (e ∷ ds) (suc k) d h lt = due_at S n ds k d h.1 (omega arith)

-- for a larger table
pub due_upto : (S : System) (n m : ℕ) (ds : List Due) → n ≤ m → EachDue S n ds → EachDue S m ds
due_upto S n m [] le h = tt
due_upto S n m (d ∷ ds) le h = (record { equation = h.0.equation; least = h.0.least; most = omega (arith, h.0.most); some = h.0.some }, due_upto S n m ds le h.1)

-- the number of ways in either order
pub number_reverse : (S : System) (ds : List Due) → completion_count S (reverse ds) ≡ completion_count S ds
number_reverse S [] = refl
number_reverse S (d ∷ ds) =
    ap (completion_count S) (reverse_onto ds d []) ∙ number_append S (reverse ds) (d ∷ []) ∙ ap (λ z. z * completion_count S (d ∷ [])) (number_reverse S ds) ∙ swap (completion_count S ds) (count_at S d.equation d.size)
  where
    swap : (a b : ℕ) → a * (b * 1) ≡ b * a
    swap a b = omega arith

-- what is due below a vertex has trees
each_dues : (S : System) (n : ℕ) (cs ns : List ℕ) → ((k : ℕ) → k < length cs → get_or cs k 0 < length S.equations) → 0 < weight (count_at S) cs ns → sum_of ns ≤ n → EachDue S n (dues cs ns)
each_dues S n [] ns known some le = tt
each_dues S n (c ∷ cs) [] known some le = tt
each_dues S n (c ∷ cs) (m ∷ ns) known some le =
    let p = left_some (count_at S c m) (weight (count_at S) cs ns) 0 some in (
      record { equation = known 0 (omega arith); least = some_size S c m p; most = omega arith; some = p },
      each_dues S n cs ns (λ k h. known (suc k) (omega arith)) (right_some (count_at S c m) (weight (count_at S) cs ns) 0 some) (omega arith),
    )

-- all that is due has trees
pub derives_each : (S : System) → IsWellFormed S → (n : ℕ) → 1 ≤ n → 0 < length S.equations → 0 < count_at S 0 n → (xs : List Vertex) (ds : List Due) → Derives S n xs ds → EachDue S n ds
derives_each S w n one eqs some [] ds e = rw e (record { equation = eqs; least = one; most = omega arith; some = some }, tt)
derives_each S w n one eqs some (x ∷ xs) ds c =
    let h = derives_each S w n one eqs some xs (due x ∷ c.1.0) c.1.2 in
    let r = derives_room S w n one xs (due x ∷ c.1.0) c.1.2 in
    subst (EachDue S n) (sym c.1.1) (due_append S n (dues_below S x) c.1.0 (each_dues S n (children_at S x) x.sizes (arity S w x).known c.0.some (fits r)) h.1)
  where
    upto : (ns : List ℕ) → sum_of ns ≤ whole ns
    upto [] = omega arith
    upto (n ∷ ns) = omega arith

    fits : Rooms n xs (due x ∷ c.1.0) → sum_of x.sizes ≤ n
    fits r = let u = upto x.sizes in omega (arith, c.0.sum, r.sum)

-- there is a way to do all that is due
pub each_some : (S : System) (n : ℕ) (ds : List Due) → EachDue S n ds → 0 < completion_count S ds
each_some S n [] h = omega arith
each_some S n (d ∷ ds) h = both_some (count_at S d.equation d.size) (completion_count S ds) h.0.some (each_some S n ds h.1)

-- as much is due as there is room for
pub each_room : (S : System) (n : ℕ) (ds : List Due) → EachDue S n ds → length ds ≤ due_sizes ds
each_room S n [] h = omega arith
each_room S n (d ∷ ds) h = let r = each_room S n ds h.1 in omega (arith, h.0.least)

-- a vertex that some tree begins with has a size
pub sound_size : (S : System) (x : Vertex) → Sound S x → 1 ≤ x.size
sound_size S x s = by (children_at S x) x.sizes s.many s.some s.sum
  where
    by : (cs ns : List ℕ) → length ns ≡ length cs → 0 < weight (count_at S) cs ns → whole ns ≡ x.size → 1 ≤ x.size
    by cs [] e some sum = omega arith
    by [] (n ∷ ns) e some sum = absurd (omega arith)
    by (c ∷ cs) (n ∷ ns) e some sum = let p = some_size S c n (left_some (count_at S c n) (weight (count_at S) cs ns) 0 some) in omega arith

-- the load falls when a vertex is placed

-- the load in two parts
load_append : (ds es : List Due) → load (ds ++ es) ≡ load ds + load es
load_append [] es = omega arith
load_append (d ∷ ds) es = omega (arith, load_append ds es)

-- the load by the sizes
load_upto : (S : System) (n : ℕ) (ds : List Due) → EachDue S n ds → load ds + length ds ≡ 2 * due_sizes ds
load_upto S n [] h = omega arith
load_upto S n (d ∷ ds) h = let r = load_upto S n ds h.1 in omega (arith, h.0.least)

-- a vertex takes more off than it makes due
pub load_falls : (S : System) → IsWellFormed S → (n : ℕ) (x : Vertex) (ds : List Due) → Sound S x → EachDue S n (dues_below S x) → 1 ≤ x.size → load (dues_below S x ++ ds) < load (due x ∷ ds)
load_falls S w n x ds s h one = by (below_load S w x s)
  where
    a : load (dues_below S x ++ ds) ≡ load (dues_below S x) + load ds
    a = load_append (dues_below S x) ds

    b : load (dues_below S x) + length (dues_below S x) ≡ 2 * due_sizes (dues_below S x)
    b = load_upto S n (dues_below S x) h

    by : (((length (dues_below S x) ≡ 0) × (due_sizes (dues_below S x) ≡ 0) × (x.size ≡ 1)) ⊎ ((2 ≤ length (dues_below S x)) × (due_sizes (dues_below S x) ≡ x.size))) → load (dues_below S x ++ ds) < load (due x ∷ ds)
    by (inl h) = omega (arith, a, b, h.0, h.1, h.2)
    by (inr h) = omega (arith, a, b, h.0, h.1)

-- a vertex that was picked is sound

-- one picked for what is due
pub picked_sound : (S : System) (u n F r left : ℕ) (x : Vertex) → u < length S.equations → 0 < trees_under S x → Picked S u n F (vertices S u n) r x left → Sound S x
picked_sound S u n F r left x lt some p = record {
  equation = subst (λ z. z < length S.equations) (sym p.equation) lt;
  term = subst (λ z. x.term < length (terms_at S z)) (sym p.equation) p.term;
  many = p.many;
  sum = p.sum ∙ sym p.size;
  some = some;
  front = p.skips.front;
  there = ap₂ (λ a b. vertices S a b) p.equation p.size ∙ p.skips.is;
}

-- one picked after a sound vertex
pub next_sound : (S : System) (F r left : ℕ) (x y : Vertex) → Sound S x → 0 < trees_under S y → Picked S x.equation x.size F (vertices_after S x) r y left → Sound S y
next_sound S F r left x y s some p = record {
  equation = subst (λ z. z < length S.equations) (sym p.equation) s.equation;
  term = subst (λ z. y.term < length (terms_at S z)) (sym p.equation) p.term;
  many = p.many;
  sum = p.sum ∙ sym p.size;
  some = some;
  front = s.front ++ (x ∷ p.skips.front);
  there =
      ap₂ (λ a b. vertices S a b) p.equation p.size ∙ s.there ∙ ap (λ z. s.front ++ (x ∷ z)) p.skips.is
      ∙ sym (append_assoc s.front (x ∷ p.skips.front) (y ∷ vertices_after S y));
}

-- what came, followed by what completes it, completes the whole
pub derives_completes : (S : System) (n : ℕ) (xs ys : List Vertex) (ds : List Due) → Derives S n xs ds → Completes S ds ys → Completes S (record { equation = 0; size = n } ∷ []) (onto xs ys)
derives_completes S n [] ys ds e h = subst (λ z. Completes S z ys) e h
derives_completes S n (x ∷ xs) ys ds c h = derives_completes S n xs (x ∷ ys) (due x ∷ c.1.0) c.1.2 (c.0, (c.1.0, refl, subst (λ z. Completes S z ys) c.1.1 h))

-- there is room for a vertex and what is due below it
pub put_room : (S : System) → IsWellFormed S → (n : ℕ) → 1 ≤ n → 0 < count_at S 0 n → (x : Vertex) (xs : List Vertex) (ds : List Due) → Derives S n (x ∷ xs) (dues_below S x ++ ds)
    → (length x.sizes + length ds ≤ n) × (length xs + 2 ≤ 2 * n)
put_room S w n one some x xs ds c =
    let r = derives_room S w n one (x ∷ xs) (dues_below S x ++ ds) c in
    let e = each_room S n (dues_below S x ++ ds) (derives_each S w n one w.some some (x ∷ xs) (dues_below S x ++ ds) c) in
    let a = length-append (dues_below S x) ds in
    let b = length_dues (children_at S x) x.sizes c.0.many in
    (omega (arith, r.sum), omega (arith, r.sum, r.long))

-- there is room for what a vertex was placed for
pub back_room : (S : System) → IsWellFormed S → (n : ℕ) → 1 ≤ n → 0 < count_at S 0 n → (d : Due) (xs : List Vertex) (ds : List Due) → Derives S n xs (d ∷ ds) → length ds < n
back_room S w n one some d xs ds c =
    let r = derives_room S w n one xs (d ∷ ds) c in
    let e = each_room S n (d ∷ ds) (derives_each S w n one w.some some xs (d ∷ ds) c) in
    omega (arith, r.sum)

-- what is due below the last vertex, and before it
pub below_is : (S : System) (n : ℕ) (x : Vertex) (xs : List Vertex) (ds : List Due) → Derives S n (x ∷ xs) ds → (ds ≡ dues_below S x ++ drop (length x.sizes) ds) × Derives S n xs (due x ∷ drop (length x.sizes) ds)
below_is S n x xs ds c =
    let e : drop (length x.sizes) ds ≡ c.1.0 = ap (drop (length x.sizes)) c.1.1 ∙ drop_below S x c.1.0 c.0.many in
    (c.1.1 ∙ ap (λ z. dues_below S x ++ z) (sym e), subst (λ z. Derives S n xs (due x ∷ z)) (sym e) c.1.2)

-- what is due for child i, and for those after it
pub dues_here : (cs ns : List ℕ) (i : ℕ) → i < length cs → length ns ≡ length cs → drop i (dues cs ns) ≡ record { equation = get_or cs i 0; size = get_or ns i 0 } ∷ drop (i + 1) (dues cs ns)
dues_here [] ns i lt e = absurd (omega arith)
dues_here (c ∷ cs) [] i lt e = absurd (omega arith)
dues_here (c ∷ cs) (n ∷ ns) zero lt e = refl
dues_here (c ∷ cs) (n ∷ ns) (suc i) lt e = let k : suc i + 1 ≡ suc (i + 1) = omega arith in rw k (dues_here cs ns i (omega arith) (omega arith))
