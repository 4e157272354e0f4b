-- The first vertex along the terms of an equation, and the next one after a vertex.
use Rattle.std.proofs.Common.{◌≡◌, ℕ, zero, suc, ◌+◌, ◌*◌, ◌-◌, ◌<◌, ◌≤◌, Bool, true, false, ◌==◌, cond, eqb-true, List, [], ◌∷◌, ◌++◌, map, length, flat_map, refl, sym, ◌∙◌, ap, ap₂, subst, arith, ◌⊎◌, inl, inr, Option, Some, None, MatchOption}
use Rattle.std.proofs.lemmas.Grind.{flat_map-append}
use Rattle.av_perm.specs.Lists.{counting, size_lists}
use Rattle.av_sys.specs.declared.terms.Term.{Term}
use Rattle.av_sys.specs.declared.terms.Term.TheVariants.{Point, Node}
use Rattle.av_sys.specs.declared.terms.System.{System}
use Rattle.av_sys.specs.Terms.{terms_at, term_at, children_of, IsWellFormed}
use Rattle.av_count.specs.Choices.{sum_from}
use Rattle.av_sys.specs.TreeLists.{count_at}
use Rattle.av_count.specs.Members.{term_ways}
use Rattle.av_count.specs.declared.count.Count.{Count}
use Rattle.av_count.proofs.Members.{count_by_terms}
use Rattle.av_list.specs.declared.vertex.Vertex.{Vertex}
use Rattle.av_list.specs.declared.vertex.Due.{Due}
use Rattle.av_list.specs.Sizes.{sum_of, weight, weighed, sizes_after, Skips, Firsts}
use Rattle.av_list.specs.Vertices.{vertex, vertices_of, vertices_from, vertices, same_after, vertices_after, children_at, trees_under, dues_below}
use Rattle.av_list.specs.Remaining.{whole, completion_count}
use Rattle.av_list.specs.Derivations.{IsFactor}
use Rattle.av_list.specs.Picked.{TermFound, Begins, Picked}
use Rattle.av_list.proofs.Skips.{weighed_append, weighed_times, skip_none, skip_on, skip_more, skip_whole, skip_map, skip_free, skip_nothing}
use Rattle.av_list.proofs.SizeSteps.{weighed_sizes, counting_more}
use Rattle.av_list.proofs.Shapes.{number_append, number_dues}
use Rattle.av_list.proofs.Products.{both_some, right_some}

-- once a number is the number
one_times : (a : ℕ) → 1 * a ≡ a
one_times a = omega arith

-- a number once is the number
times_one : (a : ℕ) → a * 1 ≡ a
times_one a = omega arith

-- the vertices of a term weigh as much as it has trees
pub term_weighs : (S : System) (u n t : ℕ) → weighed (trees_under S) (vertices_of u n t (term_at S u t)) ≡ term_ways S n (term_at S u t)
term_weighs S u n t = by (term_at S u t) refl
  where
    by : (o : Option Term) → term_at S u t ≡ o → weighed (trees_under S) (vertices_of u n t o) ≡ term_ways S n o
    by None e = refl
    by (Some Point) e = one (n == 1)
      where
        one : (b : Bool) → weighed (trees_under S) (cond b (vertex u n t [] ∷ []) []) ≡ cond {A = ℕ} b 1 0
        one true = rw e refl
        one false = refl
    by (Some (Node root cs)) e =
        weighed_times (trees_under S) (weight (count_at S) cs) (vertex u n t) 1 (λ ns. ap (λ o. weight (count_at S) (children_of o) ns) e ∙ sym (one_times (weight (count_at S) cs ns))) (size_lists (length cs) n)
        ∙ one_times (weighed (weight (count_at S) cs) (size_lists (length cs) n)) ∙ weighed_sizes (count_at S) cs n

-- those of k terms
pub vertices_weigh : (S : System) (u n t k : ℕ) → weighed (trees_under S) (vertices_from S u n t k) ≡ sum_from (λ j. term_ways S n (term_at S u j)) t k
vertices_weigh S u n t zero = refl
vertices_weigh S u n t (suc k) =
    weighed_append (trees_under S) (vertices_of u n t (term_at S u t)) (vertices_from S u n (suc t) k)
    ∙ ap₂ (λ a b. a + b) (term_weighs S u n t) (vertices_weigh S u n (suc t) k)

-- all vertices weigh as much as there are trees
pub all_weigh : (S : System) → IsWellFormed S → (u n : ℕ) → weighed (trees_under S) (vertices S u n) ≡ count_at S u n
all_weigh S w u n = vertices_weigh S u n 0 (length (terms_at S u)) ∙ sym (count_by_terms S w u n)

-- the first vertex of a term

pub begins_point : (S : System) (u t n F r : ℕ) → term_at S u t ≡ Some Point → r < F * term_ways S n (term_at S u t) → Begins S u t n F r (vertex u n t []) r
begins_point S u t n F r e lt = by (n == 1) refl (subst (λ o. r < F * term_ways S n o) e lt)
  where
    by : (b : Bool) → (n == 1) ≡ b → r < F * cond {A = ℕ} b 1 0 → Begins S u t n F r (vertex u n t []) r
    by true one h = record {
      equation = refl;
      term = refl;
      size = refl;
      many = rw e refl;
      sum = sym (eqb-true n 1 one);
      skips = subst (λ z. Skips (trees_under S) F z (vertex u n t [] ∷ []) r r) (sym listed) (skip_none (trees_under S) F (vertex u n t [] ∷ []) r);
      within = rw e h;
    }
      where
        listed : vertices_of u n t (term_at S u t) ≡ vertex u n t [] ∷ []
        listed = ap (vertices_of u n t) e ∙ ap (λ b. cond b (vertex u n t [] ∷ []) []) one
    by false one h = absurd (omega arith)

-- where there are sizes, the whole is their sum
pub whole_some : (ns : List ℕ) → 1 ≤ length ns → whole ns ≡ sum_of ns
whole_some [] h = absurd (omega arith)
whole_some (n ∷ ns) h = refl

-- a step along lists of sizes is one along vertices
skip_sizes : (S : System) (u t n F : ℕ) (root cs : List ℕ) (xs ys : List (List ℕ)) (r s : ℕ) → term_at S u t ≡ Some (Node root cs)
    → Skips (weight (count_at S) cs) F xs ys r s → Skips (trees_under S) F (map (vertex u n t) xs) (map (vertex u n t) ys) r s
skip_sizes S u t n F root cs xs ys r s e a =
    skip_map (trees_under S) (weight (count_at S) cs) (vertex u n t) F 1 xs ys r s
    (λ ns. ap (λ o. weight (count_at S) (children_of o) ns) e ∙ sym (one_times (weight (count_at S) cs ns)))
    (subst (λ z. Skips (weight (count_at S) cs) z xs ys r s) (sym (times_one F)) a)

-- where the term is a node, the first vertex has the first sizes
pub begins_node : (S : System) (u t n F r left : ℕ) (root cs ns : List ℕ) → term_at S u t ≡ Some (Node root cs) → 1 ≤ length cs
    → Firsts (count_at S) cs n F (size_lists (length cs) n) r ns left → Begins S u t n F r (vertex u n t ns) left
begins_node S u t n F r left root cs ns e some h = record {
  equation = refl;
  term = refl;
  size = refl;
  many = rw e h.many;
  sum = whole_some ns (omega (arith, h.many)) ∙ h.sum;
  skips = subst (λ o. Skips (trees_under S) F (vertices_of u n t o) (vertex u n t ns ∷ same_after (vertex u n t ns)) r left) (sym e) (skip_sizes S u t n F root cs (size_lists (length cs) n) (ns ∷ sizes_after ns n) r left e h.skips);
  within = rw e h.within;
}

-- the vertices after one, by the numbers that it holds
after_is : (S : System) (u n t : ℕ) (x : Vertex) → x.equation ≡ u → x.size ≡ n → x.term ≡ t → same_after x ++ vertices_from S u n (suc t) (length (terms_at S u) - suc t) ≡ vertices_after S x
after_is S u n t x e f g =
    ap (λ z. same_after x ++ vertices_from S z n (suc t) (length (terms_at S z) - suc t)) (sym e)
    ∙ ap (λ z. same_after x ++ vertices_from S x.equation z (suc t) (length (terms_at S x.equation) - suc t)) (sym f)
    ∙ ap (λ z. same_after x ++ vertices_from S x.equation x.size (suc z) (length (terms_at S x.equation) - suc z)) (sym g)

-- the vertices of some terms, and those of the terms after them
from_cut : (S : System) (u n lo a b : ℕ) → vertices_from S u n lo (a + b) ≡ vertices_from S u n lo a ++ vertices_from S u n (lo + a) b
from_cut S u n lo a b =
    ap (flat_map (λ j. vertices_of u n j (term_at S u j))) (counting_more lo a b)
    ∙ flat_map-append (λ j. vertices_of u n j (term_at S u j)) (counting lo a) (counting (lo + a) b)

-- the first vertex from a term on
pub picked_from : (S : System) (u n F least r at l left : ℕ) (x : Vertex)
    → TermFound (λ t. term_ways S n (term_at S u t)) (length (terms_at S u)) F least r at l → Begins S u at n F l x left
    → Picked S u n F (vertices_from S u n least (length (terms_at S u) - least)) r x left
picked_from S u n F least r at l left x found b = record {
  equation = b.equation;
  term = subst (λ z. z < length (terms_at S u)) (sym b.term) found.high;
  size = b.size;
  many = b.many;
  sum = b.sum;
  skips =
      subst (λ z. Skips (trees_under S) F z (x ∷ vertices_after S x) r left) (sym cut)
      (skip_on (trees_under S) F (vertices_from S u n least (at - least) ++ vertices_from S u n at (suc (len - suc at))) (vertices_from S u n at (suc (len - suc at))) (x ∷ vertices_after S x) r l left
      (skip_whole (trees_under S) F (vertices_from S u n least (at - least)) (vertices_from S u n at (suc (len - suc at))) r l (ap (λ z. l + F * z) (vertices_weigh S u n least (at - least)) ∙ found.place))
      (subst (λ z. Skips (trees_under S) F (vertices_of u n at (term_at S u at) ++ vertices_from S u n (suc at) (len - suc at)) (x ∷ z) l left) (after_is S u n at x b.equation b.size b.term)
      (skip_more (trees_under S) F (vertices_of u n at (term_at S u at)) (x ∷ same_after x) (vertices_from S u n (suc at) (len - suc at)) l left b.skips)));
  within = b.within;
}
  where
    len : ℕ
    len = length (terms_at S u)

    count : length (terms_at S u) - least ≡ (at - least) + suc (length (terms_at S u) - suc at)
    count = omega (arith, found.low, found.high)

    there : least + (at - least) ≡ at
    there = omega (arith, found.low)

    cut : vertices_from S u n least (length (terms_at S u) - least) ≡ vertices_from S u n least (at - least) ++ vertices_from S u n at (suc (length (terms_at S u) - suc at))
    cut = ap (vertices_from S u n least) count ∙ from_cut S u n least (at - least) (suc (length (terms_at S u) - suc at))
        ∙ ap (λ z. vertices_from S u n least (at - least) ++ vertices_from S u n z (suc (length (terms_at S u) - suc at))) there

-- the next vertex

-- with the same term
pub picked_same : (S : System) (x : Vertex) (root cs ns : List ℕ) → x.term < length (terms_at S x.equation) → term_at S x.equation x.term ≡ Some (Node root cs) → 1 ≤ length cs
    → Firsts (count_at S) cs x.size 1 (sizes_after x.sizes x.size) 0 ns 0 → Picked S x.equation x.size 1 (vertices_after S x) 0 (vertex x.equation x.size x.term ns) 0
picked_same S x root cs ns lt e some h = record {
  equation = refl;
  term = lt;
  size = refl;
  many = rw e h.many;
  sum = whole_some ns (omega (arith, h.many)) ∙ h.sum;
  skips = skip_more (trees_under S) 1 (same_after x) (map (vertex x.equation x.size x.term) (ns ∷ sizes_after ns x.size)) (vertices_from S x.equation x.size (suc x.term) (length (terms_at S x.equation) - suc x.term)) 0 0
      (skip_sizes S x.equation x.term x.size 1 root cs (sizes_after x.sizes x.size) (ns ∷ sizes_after ns x.size) 0 0 e h.skips);
  within = rw e h.within;
}

-- none with the same term
pub same_ended : (S : System) (x : Vertex) (root cs : List ℕ) → term_at S x.equation x.term ≡ Some (Node root cs)
    → weighed (weight (count_at S) cs) (sizes_after x.sizes x.size) ≡ 0 → weighed (trees_under S) (same_after x) ≡ 0
same_ended S x root cs e none =
    weighed_times (trees_under S) (weight (count_at S) cs) (vertex x.equation x.size x.term) 1 (λ ns. ap (λ o. weight (count_at S) (children_of o) ns) e ∙ sym (one_times (weight (count_at S) cs ns))) (sizes_after x.sizes x.size)
    ∙ one_times (weighed (weight (count_at S) cs) (sizes_after x.sizes x.size)) ∙ none

-- where the term is a point, no vertex with the same term derives after
pub same_point : (S : System) (x : Vertex) → term_at S x.equation x.term ≡ Some Point → length x.sizes ≡ length (children_at S x) → weighed (trees_under S) (same_after x) ≡ 0
same_point S x e many = by x.sizes (many ∙ ap (λ o. length (children_of o)) e)
  where
    by : (ns : List ℕ) → length ns ≡ 0 → weighed (trees_under S) (map (vertex x.equation x.size x.term) (sizes_after ns x.size)) ≡ 0
    by [] h = refl
    by (n ∷ ns) h = absurd (omega arith)

-- the two ways to write the next number
suc_plus : (t : ℕ) → t + 1 ≡ suc t
suc_plus t = omega arith

-- with a later term
pub picked_later : (S : System) (x y : Vertex) (left : ℕ) → weighed (trees_under S) (same_after x) ≡ 0
    → Picked S x.equation x.size 1 (vertices_from S x.equation x.size (x.term + 1) (length (terms_at S x.equation) - (x.term + 1))) 0 y left → Picked S x.equation x.size 1 (vertices_after S x) 0 y 0
picked_later S x y left none p = record {
  equation = p.equation;
  term = p.term;
  size = p.size;
  many = p.many;
  sum = p.sum;
  skips =
      skip_on (trees_under S) 1 (vertices_after S x) (vertices_from S x.equation x.size (suc x.term) (length (terms_at S x.equation) - suc x.term)) (y ∷ vertices_after S y) 0 0 0
      (skip_whole (trees_under S) 1 (same_after x) (vertices_from S x.equation x.size (suc x.term) (length (terms_at S x.equation) - suc x.term)) 0 0 (ap (λ z. 0 + 1 * z) none))
      (subst (λ z. Skips (trees_under S) 1 (vertices_from S x.equation x.size z (length (terms_at S x.equation) - z)) (y ∷ vertices_after S y) 0 0) (suc_plus x.term)
      (skip_free (trees_under S) 1 1 (vertices_from S x.equation x.size (x.term + 1) (length (terms_at S x.equation) - (x.term + 1))) (y ∷ vertices_after S y) left (omega arith) p.skips));
  within = let e = skip_nothing (trees_under S) 1 (vertices_from S x.equation x.size (x.term + 1) (length (terms_at S x.equation) - (x.term + 1))) (y ∷ vertices_after S y) left p.skips in omega (arith, p.within);
}

-- none at all
pub none_later : (S : System) (x : Vertex) → weighed (trees_under S) (same_after x) ≡ 0
    → weighed (trees_under S) (vertices_from S x.equation x.size (x.term + 1) (length (terms_at S x.equation) - (x.term + 1))) ≡ 0 → weighed (trees_under S) (vertices_after S x) ≡ 0
none_later S x none h =
    weighed_append (trees_under S) (same_after x) (vertices_from S x.equation x.size (suc x.term) (length (terms_at S x.equation) - suc x.term))
    ∙ ap₂ (λ a b. a + b) none (ap (λ z. weighed (trees_under S) (vertices_from S x.equation x.size z (length (terms_at S x.equation) - z))) (sym (suc_plus x.term)) ∙ h)

-- where no vertex with the same term is next, it is the first with a later one
pub next_later : (S : System) (x : Vertex) (o : Option Vertex) → weighed (trees_under S) (same_after x) ≡ 0
    → MatchOption o (weighed (trees_under S) (vertices_from S x.equation x.size (x.term + 1) (length (terms_at S x.equation) - (x.term + 1))) ≡ 0)
    (λ y. (left : ℕ) × Picked S x.equation x.size 1 (vertices_from S x.equation x.size (x.term + 1) (length (terms_at S x.equation) - (x.term + 1))) 0 y left)
    → MatchOption o (weighed (trees_under S) (vertices_after S x) ≡ 0) (λ y. Picked S x.equation x.size 1 (vertices_after S x) 0 y 0)
next_later S x None none h = none_later S x none h
next_later S x (Some y) none h = picked_later S x y h.0 none h.1

-- the place of a vertex among all ways to do what is due

-- a factor that stands for the number of ways after serves as that number
pub factored : (S : System) (c Q r l : ℕ) (count : Count) (ks : List Vertex) (x : Vertex) → (f : IsFactor r Q count) → r < c * Q
    → Skips (trees_under S) f.times ks (x ∷ vertices_after S x) r l → l < f.times * trees_under S x
    → Skips (trees_under S) Q ks (x ∷ vertices_after S x) r l × (l < Q * trees_under S x)
factored S c Q r l count ks x f lt a b = by f.exact
  where
    by : ((r ≡ 0) ⊎ (f.times ≡ Q)) → Skips (trees_under S) Q ks (x ∷ vertices_after S x) r l × (l < Q * trees_under S x)
    by (inr e) = (subst (λ z. Skips (trees_under S) z ks (x ∷ vertices_after S x) r l) e a, subst (λ z. l < z * trees_under S x) e b)
    by (inl e) =
        let z : Skips (trees_under S) f.times ks (x ∷ vertices_after S x) 0 l = subst (λ q. Skips (trees_under S) f.times ks (x ∷ vertices_after S x) q l) e a in
        let n : l ≡ 0 = skip_nothing (trees_under S) f.times ks (x ∷ vertices_after S x) l z in (
          subst (λ q. Skips (trees_under S) Q ks (x ∷ vertices_after S x) q l) (sym e) (subst (λ q. Skips (trees_under S) Q ks (x ∷ vertices_after S x) 0 q) (sym n) (skip_free (trees_under S) f.times Q ks (x ∷ vertices_after S x) l f.some z)),
          subst (λ q. q < Q * trees_under S x) (sym n) (both_some Q (trees_under S x) (right_some c Q r lt) (right_some f.times (trees_under S x) l b)),
        )

-- there is a vertex for what is due
pub not_past : (c w Q r : ℕ) (count : Count) → (f : IsFactor r Q count) → r < c * Q → w ≡ c → f.times * w ≤ r → ⊥
not_past c w Q r count f lt e le = by f.exact
  where
    swap : (a b : ℕ) → a * b ≡ b * a
    swap a b = omega arith

    zero_of : (a b : ℕ) → 1 ≤ a → a * b ≤ 0 → b ≡ 0
    zero_of a zero p q = refl
    zero_of zero (suc b) p q = absurd (omega arith)
    zero_of (suc a) (suc b) p q = absurd (let h = more a b in omega arith)
      where
        more : (a b : ℕ) → 1 ≤ suc a * suc b
        more a b = omega arith

    by : ((r ≡ 0) ⊎ (f.times ≡ Q)) → ⊥
    by (inr q) =
        let a : Q * c ≤ r = subst (λ z. z * c ≤ r) q (subst (λ z. f.times * z ≤ r) e le) in let s = swap Q c in omega arith
    by (inl z) =
        let a : c ≡ 0 = zero_of f.times c f.some (subst (λ q. f.times * c ≤ q) z (subst (λ q. f.times * q ≤ r) e le)) in
        let b : r < 0 * Q = subst (λ q. r < q * Q) a lt in omega arith

-- what is left lies among the ways to do what is due then
pub within_below : (S : System) (x : Vertex) (ds : List Due) (l : ℕ) → l < completion_count S ds * trees_under S x → l < completion_count S (dues_below S x ++ ds)
within_below S x ds l lt =
    subst (λ z. l < z) (swap (completion_count S ds) (trees_under S x) ∙ ap (λ z. z * completion_count S ds) (sym (number_dues S (children_at S x) x.sizes)) ∙ sym (number_append S (dues_below S x) ds)) lt
  where
    swap : (a b : ℕ) → a * b ≡ b * a
    swap a b = omega arith
