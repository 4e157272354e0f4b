-- A vertex that was picked is placed.
use Rattle.std.proofs.Common.{◌≡◌, ℕ, ◌*◌, ◌-◌, ◌<◌, ◌≤◌, List, ◌∷◌, ◌++◌, length, drop, refl, sym, ◌∙◌, ap, ap₂, subst, arith}
use Rattle.av_sys.specs.declared.terms.System.{System}
use Rattle.av_sys.specs.Terms.{terms_at, IsWellFormed}
use Rattle.av_sys.specs.TreeLists.{count_at}
use Rattle.av_count.specs.declared.count.Count.{Count}
use Rattle.av_count.specs.Counts.{capped}
use Rattle.av_list.specs.declared.vertex.Vertex.{Vertex}
use Rattle.av_list.specs.declared.vertex.Due.{Due}
use Rattle.av_list.specs.Sizes.{weighed, Skips}
use Rattle.av_list.specs.Vertices.{vertices_from, vertices, vertices_after, trees_under, dues_below, due}
use Rattle.av_list.specs.Remaining.{completion_count, left, later}
use Rattle.av_list.specs.Derivations.{Sound, Derives, EachDue, IsFactor, load}
use Rattle.av_list.specs.Picked.{Picked}
use Rattle.av_list.proofs.Skips.{weighed_append}
use Rattle.av_list.proofs.Steps.{place_step, move_step, back_step}
use Rattle.av_list.proofs.Rooms.{derives_each, picked_sound, next_sound, load_falls, due_front, below_is}
use Rattle.av_list.proofs.Choosing.{factored, not_past, within_below, all_weigh}
use Rattle.av_list.proofs.Products.{right_some}

-- the vertices from term 0 on are all vertices
pub from_zero : (S : System) (u n : ℕ) → vertices_from S u n 0 (length (terms_at S u) - 0) ≡ vertices S u n
from_zero S u n = let e : length (terms_at S u) - 0 ≡ length (terms_at S u) = omega arith in rw e refl

-- what holds once ys and es take the place of xs and what was due: the same trees are left, from place l on
pub record IsPlaced (S : System) (n : ℕ) (d : Due) (xs : List Vertex) (ds : List Due) (r : ℕ) (ys : List Vertex) (es : List Due) (l : ℕ) : Type 0 where
  pub derives : Derives S n ys es
  pub same : drop r (left S xs (d ∷ ds)) ≡ drop l (left S ys es)
  pub within : l < completion_count S es
  pub less : load es < load (d ∷ ds)

-- equal states hold the same
pub placed_as : (S : System) (n : ℕ) (d : Due) (xs : List Vertex) (ds : List Due) (r : ℕ) (ys zs : List Vertex) (es fs : List Due) (l : ℕ) → zs ≡ ys → fs ≡ es → IsPlaced S n d xs ds r ys es l → IsPlaced S n d xs ds r zs fs l
placed_as S n d xs ds r ys zs es fs l e f h = subst (λ z. IsPlaced S n d xs ds r z fs l) (sym e) (subst (λ z. IsPlaced S n d xs ds r ys z l) (sym f) h)

-- a vertex that was picked for what is due is placed
pub is_placed : (S : System) → IsWellFormed S → (n : ℕ) → 1 ≤ n → 0 < count_at S 0 n → (d : Due) (xs : List Vertex) (ds : List Due) (r l : ℕ) (count : Count) (x : Vertex)
    → Derives S n xs (d ∷ ds) → r < completion_count S (d ∷ ds) → (f : IsFactor r (completion_count S ds) count)
    → Picked S d.equation d.size f.times (vertices_from S d.equation d.size 0 (length (terms_at S d.equation) - 0)) r x l → IsPlaced S n d xs ds r (x ∷ xs) (dues_below S x ++ ds) l
is_placed S w n one some d xs ds r l count x c lt f p = record {
  derives = derives;
  same = subst (λ z. drop r (left S xs (z ∷ ds)) ≡ drop l (left S (x ∷ xs) (dues_below S x ++ ds))) same (place_step S w x xs ds r l q.many skips);
  within = within_below S x ds l g.1;
  less = subst (λ z. load (dues_below S x ++ ds) < load (z ∷ ds)) same
      (load_falls S w n x ds sound (due_front S n (dues_below S x) ds (derives_each S w n one w.some some (x ∷ xs) (dues_below S x ++ ds) derives)) least);
}
  where
    each : EachDue S n (d ∷ ds)
    each = derives_each S w n one w.some some xs (d ∷ ds) c

    q : Picked S d.equation d.size f.times (vertices S d.equation d.size) r x l
    q = subst (λ z. Picked S d.equation d.size f.times z r x l) (from_zero S d.equation d.size) p

    sound : Sound S x
    sound = picked_sound S d.equation d.size f.times r l x each.0.equation (right_some f.times (trees_under S x) l q.within) q

    same : due x ≡ d
    same = ap₂ (λ a b. record { equation = a; size = b }) q.equation q.size

    derives : Derives S n (x ∷ xs) (dues_below S x ++ ds)
    derives = (sound, (ds, refl, subst (λ z. Derives S n xs (z ∷ ds)) (sym same) c))

    least : 1 ≤ x.size
    least = subst (λ z. 1 ≤ z) (sym q.size) each.0.least

    g : Skips (trees_under S) (completion_count S ds) (vertices S d.equation d.size) (x ∷ vertices_after S x) r l × (l < completion_count S ds * trees_under S x)
    g = factored S (count_at S d.equation d.size) (completion_count S ds) r l count (vertices S d.equation d.size) x f lt q.skips q.within

    skips : Skips (trees_under S) (completion_count S ds) (vertices S x.equation x.size) (x ∷ vertices_after S x) r l
    skips = subst (λ z. Skips (trees_under S) (completion_count S ds) z (x ∷ vertices_after S x) r l) (sym (ap₂ (λ a b. vertices S a b) q.equation q.size)) g.0

-- there is a vertex to place
is_some : (S : System) → IsWellFormed S → (d : Due) (ds : List Due) (r : ℕ) (count : Count)
    → r < completion_count S (d ∷ ds) → (f : IsFactor r (completion_count S ds) count)
    → f.times * weighed (trees_under S) (vertices_from S d.equation d.size 0 (length (terms_at S d.equation) - 0)) ≤ r → ⊥
is_some S w d ds r count lt f le =
    not_past (count_at S d.equation d.size) (weighed (trees_under S) (vertices S d.equation d.size)) (completion_count S ds) r count f lt (all_weigh S w d.equation d.size)
    (subst (λ z. f.times * weighed (trees_under S) z ≤ r) (from_zero S d.equation d.size) le)

-- a vertex gives way to its next one
pub record IsMoved (S : System) (n : ℕ) (x : Vertex) (xs : List Vertex) (ds : List Due) (y : Vertex) : Type 0 where
  pub derives : Derives S n (y ∷ xs) (dues_below S y ++ drop (length x.sizes) ds)
  pub same : later S (x ∷ xs) ds ≡ left S (y ∷ xs) (dues_below S y ++ drop (length x.sizes) ds)

-- a vertex gives way to the one picked after it
pub is_moved : (S : System) (n : ℕ) (x y : Vertex) (xs : List Vertex) (ds : List Due) → Derives S n (x ∷ xs) ds → Picked S x.equation x.size 1 (vertices_after S x) 0 y 0 → IsMoved S n x xs ds y
is_moved S n x y xs ds c p = record {
  derives = (sound, (drop (length x.sizes) ds, refl, subst (λ z. Derives S n xs (z ∷ drop (length x.sizes) ds)) (sym same) b.1));
  same = ap (later S (x ∷ xs)) b.0 ∙ move_step S x y xs (drop (length x.sizes) ds) c.0.many p.many same p.skips;
}
  where
    b : (ds ≡ dues_below S x ++ drop (length x.sizes) ds) × Derives S n xs (due x ∷ drop (length x.sizes) ds)
    b = below_is S n x xs ds c

    sound : Sound S y
    sound = next_sound S 1 0 0 x y c.0 (right_some 1 (trees_under S y) 0 p.within) p

    same : due y ≡ due x
    same = ap₂ (λ a b. record { equation = a; size = b }) p.equation p.size

-- a vertex without a next one is taken back
pub is_back : (S : System) (n : ℕ) (x : Vertex) (xs : List Vertex) (ds : List Due) → Derives S n (x ∷ xs) ds → weighed (trees_under S) (vertices_after S x) ≡ 0
    → later S (x ∷ xs) ds ≡ later S xs (due x ∷ drop (length x.sizes) ds)
is_back S n x xs ds c none =
    let b = below_is S n x xs ds c in
    ap (later S (x ∷ xs)) b.0 ∙ back_step S x xs (drop (length x.sizes) ds) c.0.many none

-- the same where the table stands for the system T
pub place_all : (S T : System) → IsWellFormed S → (n : ℕ) → 1 ≤ n → 0 < count_at S 0 n → (d : Due) (xs : List Vertex) (ds : List Due) (r l : ℕ) (count : Count) (x : Vertex) → T ≡ S
    → Derives S n xs (d ∷ ds) → r < completion_count S (d ∷ ds) → IsFactor r (completion_count T ds) count
    → ((F : ℕ) → count ≡ capped F → Picked S d.equation d.size F (vertices_from S d.equation d.size 0 (length (terms_at S d.equation) - 0)) r x l) → IsPlaced S n d xs ds r (x ∷ xs) (dues_below S x ++ ds) l
place_all S T w n one some d xs ds r l count x same c lt f p =
    let g : IsFactor r (completion_count S ds) count = subst (λ (Z : System). IsFactor r (completion_count Z ds) count) same f in
    is_placed S w n one some d xs ds r l count x c lt g (p g.times g.is)

-- and there is a vertex to place
pub place_none : (S T : System) → IsWellFormed S → (d : Due) (ds : List Due) (r : ℕ) (count : Count) → T ≡ S
    → r < completion_count S (d ∷ ds) → IsFactor r (completion_count T ds) count
    → ((F : ℕ) → count ≡ capped F → F * weighed (trees_under S) (vertices_from S d.equation d.size 0 (length (terms_at S d.equation) - 0)) ≤ r) → ⊥
place_none S T w d ds r count same lt f p =
    let g : IsFactor r (completion_count S ds) count = subst (λ (Z : System). IsFactor r (completion_count Z ds) count) same f in
    is_some S w d ds r count lt g (p g.times g.is)

-- the last vertex gives way, or is taken back

-- the last vertex gives way to the next one
pub retract_move : (S : System) (n : ℕ) (x y : Vertex) (xs all : List Vertex) (ds es : List Due) → Derives S n all ds → all ≡ x ∷ xs → es ≡ drop (length x.sizes) ds → Picked S x.equation x.size 1 (vertices_after S x) 0 y 0
    → Derives S n (y ∷ xs) (dues_below S y ++ es) × (later S all ds ≡ left S (y ∷ xs) (dues_below S y ++ es))
retract_move S n x y xs all ds es c e f p =
    let m = is_moved S n x y xs ds (subst (λ z. Derives S n z ds) e c) p in
    (subst (λ z. Derives S n (y ∷ xs) (dues_below S y ++ z)) (sym f) m.derives, ap (λ z. later S z ds) e ∙ m.same ∙ ap (λ z. left S (y ∷ xs) (dues_below S y ++ z)) (sym f))

-- or it is taken back
pub retract_back : (S : System) (n : ℕ) (x : Vertex) (xs all : List Vertex) (ds es : List Due) → Derives S n all ds → all ≡ x ∷ xs → es ≡ drop (length x.sizes) ds → weighed (trees_under S) (vertices_after S x) ≡ 0
    → Derives S n xs (due x ∷ es) × (later S all ds ≡ later S xs (due x ∷ es))
retract_back S n x xs all ds es c e f none =
    let d : Derives S n (x ∷ xs) ds = subst (λ z. Derives S n z ds) e c in
    (subst (λ z. Derives S n xs (due x ∷ z)) (sym f) (below_is S n x xs ds d).1, ap (λ z. later S z ds) e ∙ is_back S n x xs ds d none ∙ ap (λ z. later S xs (due x ∷ z)) (sym f))

-- it is no larger than the whole tree
pub vertex_upto : (S : System) → IsWellFormed S → (n : ℕ) → 1 ≤ n → 0 < count_at S 0 n → (x : Vertex) (xs all : List Vertex) (ds : List Due) → Derives S n all ds → all ≡ x ∷ xs → x.size ≤ n
vertex_upto S w n one some x xs all ds c e =
    (derives_each S w n one w.some some xs (due x ∷ drop (length x.sizes) ds) (below_is S n x xs ds (subst (λ z. Derives S n z ds) e c)).1).0.most

-- the vertex of the only tree is the last
pub single_last : (S T : System) → IsWellFormed S → T ≡ S → (x : Vertex) → Sound S x → count_at T x.equation x.size ≡ 1 → weighed (trees_under S) (vertices_after S x) ≡ 0
single_last S T w same x s one =
    let a = all_weigh S w x.equation x.size in
    let b = ap (weighed (trees_under S)) s.there ∙ weighed_append (trees_under S) s.front (x ∷ vertices_after S x) in
    let c = ap (λ (Z : System). count_at Z x.equation x.size) same in
    omega (arith, s.some)
