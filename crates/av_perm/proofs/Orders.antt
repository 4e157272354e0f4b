-- The test for the same relative order tests it.
use Rattle.std.proofs.Common.{◌≡◌, ℕ, zero, suc, ◌<◌, ◌↔◌, List, [], ◌∷◌, length, true, ◌&&◌, nat_lt, refl, sym, ap, ◌∙◌, arith}
use Rattle.std.proofs.lemmas.Bool.{and_parts, and_from}
use Rattle.av_perm.specs.Lists.{alike}
use Rattle.av_perm.specs.Contain.{same_order, same_side}
use Rattle.av_perm.specs.Relations.{at, SameOrder}
use Rattle.av_perm.proofs.Tests.{agree_from, agree_to}

-- the same relative order as an equivalence
pub order_same : (xs : List ℕ) → SameOrder xs xs
order_same xs = record { count = refl; alike = λ s t h k. (λ l. l, λ l. l) }

-- the same relative order the other way round
pub order_back : (xs ys : List ℕ) → SameOrder xs ys → SameOrder ys xs
order_back xs ys o = record {
  count = sym o.count;
  alike = λ s t h k. let g = o.alike s t (omega (arith, o.count)) (omega (arith, o.count)) in (g.1, g.0);
}

-- the same relative order by way of a third list
pub order_join : (xs ys zs : List ℕ) → SameOrder xs ys → SameOrder ys zs → SameOrder xs zs
order_join xs ys zs o q = record {
  count = o.count ∙ q.count;
  alike = λ s t h k.
      let g = o.alike s t h k in
      let m = q.alike s t (omega (arith, o.count)) (omega (arith, o.count)) in
      (λ l. m.0 (g.0 l), λ l. g.1 (m.1 l));
}

-- x lies to each of xs as y to the entry of ys at the same place
record SameSide (x y : ℕ) (xs ys : List ℕ) : Type 0 where
  count : length xs ≡ length ys
  up : (s : ℕ) → s < length xs → (x < at xs s) ↔ (y < at ys s)
  down : (s : ℕ) → s < length xs → (at xs s < x) ↔ (at ys s < y)

-- where the test of one side passes, it is so
side_from : (x y : ℕ) (xs ys : List ℕ) → same_side x y xs ys ≡ true → SameSide x y xs ys
side_from x y [] [] e = record { count = refl; up = λ s h. absurd (omega arith); down = λ s h. absurd (omega arith) }
side_from x y [] (b ∷ ys) e = absurd (cc)
side_from x y (a ∷ xs) [] e = absurd (cc)
side_from x y (a ∷ xs) (b ∷ ys) e =
    let p = and_parts (alike (nat_lt x a) (nat_lt y b) && alike (nat_lt a x) (nat_lt b y)) (same_side x y xs ys) e in
    let q = and_parts (alike (nat_lt x a) (nat_lt y b)) (alike (nat_lt a x) (nat_lt b y)) p.0 in
    let r = side_from x y xs ys p.1 in
    record { count = ap suc r.count; up = λ s. up q.0 r s; down = λ s. down q.1 r s }
  where
    up : alike (nat_lt x a) (nat_lt y b) ≡ true → SameSide x y xs ys → (s : ℕ) → s < length (a ∷ xs) → (x < at (a ∷ xs) s) ↔ (y < at (b ∷ ys) s)
    up q r zero h = agree_from x a y b q
    up q r (suc s) h = r.up s (omega arith)

    down : alike (nat_lt a x) (nat_lt b y) ≡ true → SameSide x y xs ys → (s : ℕ) → s < length (a ∷ xs) → (at (a ∷ xs) s < x) ↔ (at (b ∷ ys) s < y)
    down q r zero h = agree_from a x b y q
    down q r (suc s) h = r.down s (omega arith)

-- where it is so, the test of one side passes
side_to : (x y : ℕ) (xs ys : List ℕ) → SameSide x y xs ys → same_side x y xs ys ≡ true
side_to x y [] [] r = refl
side_to x y [] (b ∷ ys) r = absurd (omega (arith, r.count))
side_to x y (a ∷ xs) [] r = absurd (omega (arith, r.count))
side_to x y (a ∷ xs) (b ∷ ys) r =
    and_from (alike (nat_lt x a) (nat_lt y b) && alike (nat_lt a x) (nat_lt b y)) (same_side x y xs ys)
    (and_from (alike (nat_lt x a) (nat_lt y b)) (alike (nat_lt a x) (nat_lt b y)) (agree_to x a y b (r.up 0 (omega arith))) (agree_to a x b y (r.down 0 (omega arith))))
    (side_to x y xs ys (record { count = omega (arith, r.count); up = λ s h. r.up (suc s) (omega arith); down = λ s h. r.down (suc s) (omega arith) }))

-- where the test of relative order passes, it is the same
pub order_from : (xs ys : List ℕ) → same_order xs ys ≡ true → SameOrder xs ys
order_from [] [] e = record { count = refl; alike = λ s t h. absurd (omega arith) }
order_from [] (y ∷ ys) e = absurd (cc)
order_from (x ∷ xs) [] e = absurd (cc)
order_from (x ∷ xs) (y ∷ ys) e =
    let p = and_parts (same_side x y xs ys) (same_order xs ys) e in
    let r = order_from xs ys p.1 in
    record { count = ap suc r.count; alike = λ s t. both (side_from x y xs ys p.0) r s t }
  where
    both : SameSide x y xs ys → SameOrder xs ys → (s t : ℕ) → s < length (x ∷ xs) → t < length (x ∷ xs)
        → (at (x ∷ xs) s < at (x ∷ xs) t) ↔ (at (y ∷ ys) s < at (y ∷ ys) t)
    both q r zero zero h k = (λ l. absurd (omega arith), λ l. absurd (omega arith))
    both q r zero (suc t) h k = q.up t (omega arith)
    both q r (suc s) zero h k = q.down s (omega arith)
    both q r (suc s) (suc t) h k = r.alike s t (omega arith) (omega arith)

-- where the relative order is the same, the test passes
pub order_to : (xs ys : List ℕ) → SameOrder xs ys → same_order xs ys ≡ true
order_to [] [] r = refl
order_to [] (y ∷ ys) r = absurd (omega (arith, r.count))
order_to (x ∷ xs) [] r = absurd (omega (arith, r.count))
order_to (x ∷ xs) (y ∷ ys) r =
    and_from (same_side x y xs ys) (same_order xs ys)
    (side_to x y xs ys (record { count = omega (arith, r.count); up = λ s h. r.alike 0 (suc s) (omega arith) (omega arith); down = λ s h. r.alike (suc s) 0 (omega arith) (omega arith) }))
    (order_to xs ys (record { count = omega (arith, r.count); alike = λ s t h k. r.alike (suc s) (suc t) (omega arith) (omega arith) }))
