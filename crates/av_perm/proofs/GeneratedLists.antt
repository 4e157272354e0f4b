-- The lists of a length over an alphabet, the lists with one element of each of several lists, and the lists of sizes.
use Rattle.std.proofs.Common.{◌≡◌, ℕ, zero, suc, ◌-◌, ◌≤◌, inl, inr, List, [], ◌∷◌, length, refl, sym, ap, subst, arith}
use Rattle.std.specs.List.{sum}
use Rattle.std.specs.Cmp.Lexicographic.{slice_cmp}
use Rattle.std.specs.Ordering.{nat_cmp}
use Rattle.std.proofs.lemmas.Cmp.{nat_cmp_total, nat_list_cmp_total}
use Rattle.std.proofs.lemmas.List.Sums.{sum_by-cons}
use Rattle.av_perm.specs.Members.{In, Once, Ascending}
use Rattle.av_perm.specs.Lists.{counting, before_each, all_lists, products, size_lists}
use Rattle.av_perm.proofs.Membership.{Each, In_flat_map, flat_map_In, In_before, before_In, In_counting, counting_In}
use Rattle.av_perm.proofs.Ascending.{once_from_ascending, ascending_counting, ascending_heads}

-- k elements of the list
pub record IsListOver {X : Type 0} (k : ℕ) (xs v : List X) : Type 0 where
  pub long : length v ≡ k
  pub from : Each (λ x. In x xs) v

-- a list over the alphabet has k of its elements
pub lists_from : {X : Type 0} (k : ℕ) (xs v : List X) → In v (all_lists k xs) → IsListOver k xs v
unfolding all_lists
lists_from zero xs v (inl e) = subst (IsListOver 0 xs) (sym e) (record { long = refl; from = λ x i. absurd i })
lists_from zero xs v (inr h) = absurd h
lists_from {X = X} (suc k) xs v h =
    let r = In_flat_map (λ x. before_each x (all_lists k xs)) xs v h in
    let q = In_before r.0 (all_lists k xs) v r.2 in
    let a = lists_from k xs q.0 q.1 in
    subst (IsListOver (suc k) xs) (sym q.2) (record { long = ap suc a.long; from = λ x i. first r.0 q.0 r.1 a.from x i })
  where
    first : (y : X) (u : List X) → In y xs → Each (λ x. In x xs) u → Each (λ x. In x xs) (y ∷ u)
    first y u j f x (inl e) = subst (λ z. In z xs) (sym e) j
    first y u j f x (inr i) = f x i

-- and each such list is there
pub lists_to : {X : Type 0} (v xs : List X) → Each (λ x. In x xs) v → In v (all_lists (length v) xs)
unfolding all_lists
lists_to [] xs f = inl refl
lists_to (x ∷ v) xs f =
    flat_map_In (λ y. before_each y (all_lists (length v) xs)) xs x (x ∷ v) (f x (inl refl))
    (before_In x (all_lists (length v) xs) v (lists_to v xs (λ y i. f y (inr i))))

-- one element of each list in turn
abbrev pub Chosen : {X : Type 0} → List (List X) → List X → Type 0
Chosen [] [] = Unit {0}
Chosen [] (x ∷ v) = ⊥
Chosen (xs ∷ rest) [] = ⊥
Chosen (xs ∷ rest) (x ∷ v) = In x xs × Chosen rest v

-- an item of the product has one element of each list
pub products_from : {X : Type 0} (xss : List (List X)) (v : List X) → In v (products xss) → Chosen xss v
unfolding products
products_from [] v (inl e) = subst (Chosen []) (sym e) tt
products_from [] v (inr h) = absurd h
products_from (xs ∷ rest) v h =
    let r = In_flat_map (λ x. before_each x (products rest)) xs v h in
    let q = In_before r.0 (products rest) v r.2 in
    subst (Chosen (xs ∷ rest)) (sym q.2) (r.1, products_from rest q.0 q.1)

-- and each such list is there
pub products_to : {X : Type 0} (xss : List (List X)) (v : List X) → Chosen xss v → In v (products xss)
unfolding products
products_to [] [] c = inl refl
products_to [] (x ∷ v) c = absurd c
products_to (xs ∷ rest) [] c = absurd c
products_to (xs ∷ rest) (x ∷ v) c =
    flat_map_In (λ y. before_each y (products rest)) xs x (x ∷ v) c.0 (before_In x (products rest) v (products_to rest v c.1))

-- k numbers of at least 1 with sum n
pub record IsSizes (k n : ℕ) (ms : List ℕ) : Type 0 where
  pub long : length ms ≡ k
  pub some : Each (λ m. 1 ≤ m) ms
  pub whole : sum ms ≡ n

-- a list of sizes has k numbers of at least 1 with the sum
pub sizes_from : (k n : ℕ) (ms : List ℕ) → In ms (size_lists k n) → IsSizes k n ms
unfolding size_lists
sizes_from zero zero ms (inl e) = subst (IsSizes 0 0) (sym e) (record { long = refl; some = λ x i. absurd i; whole = refl })
sizes_from zero zero ms (inr i) = absurd i
sizes_from zero (suc n) ms i = absurd i
sizes_from (suc k) n ms i =
    let r = In_flat_map (λ m. before_each m (size_lists k (n - m))) (counting 1 n) ms i in
    let c = In_counting n 1 r.0 r.1 in
    let q = In_before r.0 (size_lists k (n - r.0)) ms r.2 in
    let s = sizes_from k (n - r.0) q.0 q.1 in
    subst (IsSizes (suc k) n) (sym q.2) (record {
      long = ap suc s.long;
      some = λ m j. first r.0 q.0 c.0 s.some m j;
      whole = omega (arith, sum_by-cons (λ (x : ℕ). x) r.0 q.0, s.whole, c.1);
    })
  where
    first : (y : ℕ) (u : List ℕ) → 1 ≤ y → Each (λ m. 1 ≤ m) u → Each (λ m. 1 ≤ m) (y ∷ u)
    first y u l f m (inl e) = omega arith
    first y u l f m (inr j) = f m j

-- and each such list is there
pub sizes_to : (ms : List ℕ) → Each (λ m. 1 ≤ m) ms → In ms (size_lists (length ms) (sum ms))
unfolding size_lists
sizes_to [] f = inl refl
sizes_to (m ∷ ms) f =
    let e = sum_by-cons (λ (x : ℕ). x) m ms in
    let rest : sum ms ≡ sum (m ∷ ms) - m = omega arith in
    flat_map_In (λ y. before_each y (size_lists (length ms) (sum (m ∷ ms) - y))) (counting 1 (sum (m ∷ ms))) m (m ∷ ms)
    (counting_In (sum (m ∷ ms)) 1 m (f m (inl refl)) (omega arith))
    (before_In m (size_lists (length ms) (sum (m ∷ ms) - m)) ms
    (subst (λ n. In ms (size_lists (length ms) n)) rest (sizes_to ms (λ y i. f y (inr i)))))

-- in lexicographic order, each once
pub sizes_ascending : (k n : ℕ) → Ascending (slice_cmp nat_cmp) (size_lists k n)
unfolding size_lists
sizes_ascending zero zero = (λ y i. absurd i, tt)
sizes_ascending zero (suc n) = tt
sizes_ascending (suc k) n =
    ascending_heads nat_cmp nat_cmp_total (λ m. size_lists k (n - m)) (counting 1 n) (ascending_counting n 1) (λ m i. sizes_ascending k (n - m))

-- the lists of sizes come once
pub sizes_once : (k n : ℕ) → Once (size_lists k n)
sizes_once k n = once_from_ascending (slice_cmp nat_cmp) nat_list_cmp_total (size_lists k n) (sizes_ascending k n)
