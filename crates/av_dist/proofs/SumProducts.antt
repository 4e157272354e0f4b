-- The sums of two lists of numbers are counted by the product of the rows of the lists.
use Rattle.std.proofs.Common.{◌≡◌, ℕ, zero, suc, ◌+◌, ◌-◌, ◌*◌, ◌<◌, ◌≤◌, inl, inr, List, [], ◌∷◌, map, length, cond, true, false, refl, sym, ap, ap₂, ◌∙◌, arith, nat_eq, sum_by}
use Rattle.std.proofs.lemmas.Bool.{cases_eq, cases_lt}
use Rattle.std.proofs.lemmas.List.{map-append, get_or_past}
use Rattle.std.proofs.lemmas.List.Sums.{sum_by-cons}
use Rattle.av_perm.specs.Members.{In}
use Rattle.av_perm.specs.Relations.{at}
use Rattle.av_dist.specs.Rows.{how_often, moved, product, IsRowOf}
use Rattle.av_dist.specs.Totals.{sums}
use Rattle.av_dist.proofs.HowOften.{how_often_cons, how_often_append, how_often_In}
use Rattle.av_dist.proofs.RowProducts.{moved_before, moved_at}

-- a list of numbers, each raised by k, has the moved row
raised_row : (k : ℕ) (ys g : List ℕ) (v : ℕ) → IsRowOf ys g → how_often (map (λ y. k + y) ys) v ≡ moved k g v
raised_row k ys g v r = elim (cases_lt v k) [
  | inl l ↦ before k ys v l ∙ sym (moved_before k g v l)
  | inr l ↦ within k ys v (omega arith) ∙ sym (r (v - k)) ∙ sym (moved_at k g v (omega arith))
]
  where
    not_equal : (k y v : ℕ) → v < k → nat_eq (k + y) v ≡ false
    not_equal k y v h = grind arith

    before : (k : ℕ) (ys : List ℕ) (v : ℕ) → v < k → how_often (map (λ y. k + y) ys) v ≡ 0
    before k [] v h = refl
    before k (y ∷ ys) v h = how_often_cons v (k + y) (map (λ y. k + y) ys) ∙ ap₂ (λ b n. cond {A = ℕ} b 1 0 + n) (not_equal k y v h) (before k ys v h)

    lowered : (k y v : ℕ) → k ≤ v → nat_eq (k + y) v ≡ nat_eq y (v - k)
    lowered k y v h = grind arith

    within : (k : ℕ) (ys : List ℕ) (v : ℕ) → k ≤ v → how_often (map (λ y. k + y) ys) v ≡ how_often ys (v - k)
    within k [] v h = refl
    within k (y ∷ ys) v h =
        how_often_cons v (k + y) (map (λ y. k + y) ys)
        ∙ ap₂ (λ b n. cond {A = ℕ} b 1 0 + n) (lowered k y v h) (within k ys v h) ∙ sym (how_often_cons (v - k) y ys)

-- so each number of the first list adds the row of the second, moved
sums_by_element : (s : ℕ) (xs ys g : List ℕ) (v : ℕ) → IsRowOf ys g → how_often (map (λ z. s + z) (sums xs ys)) v ≡ sum_by (λ x. moved (s + x) g v) xs
sums_by_element s [] ys g v r = refl
sums_by_element s (x ∷ xs) ys g v r =
    ap (λ (zs : List ℕ). how_often zs v) (map-append (λ z. s + z) (map (λ y. x + y) ys) (sums xs ys))
    ∙ how_often_append v (map (λ z. s + z) (map (λ y. x + y) ys)) (map (λ z. s + z) (sums xs ys))
    ∙ ap₂ (λ a b. a + b) (ap (λ (zs : List ℕ). how_often zs v) (raised_twice s x ys) ∙ raised_row (s + x) ys g v r) (sums_by_element s xs ys g v r)
    ∙ sym (sum_by-cons (λ x. moved (s + x) g v) x xs)
  where
    raised_twice : (s x : ℕ) (ys : List ℕ) → map (λ z. s + z) (map (λ y. x + y) ys) ≡ map (λ y. s + x + y) ys
    raised_twice s x [] = refl
    raised_twice s x (y ∷ ys) = ap₂ (λ a (zs : List ℕ). a ∷ zs) (omega arith) (raised_twice s x ys)

-- the sum of h over the numbers below k, each taken as often as `often` says
abbrev weighted : (ℕ → ℕ) → (ℕ → ℕ) → ℕ → ℕ
weighted often h zero = 0
weighted often h (suc k) = weighted often h k + often k * h k

weighted_same : (a b h : ℕ → ℕ) (k : ℕ) → ((j : ℕ) → a j ≡ b j) → weighted a h k ≡ weighted b h k
weighted_same a b h zero e = refl
weighted_same a b h (suc k) e = ap₂ (λ x y. x + y * h k) (weighted_same a b h k e) (e k)

weighted_both : (a b h : ℕ → ℕ) (k : ℕ) → weighted (λ j. a j + b j) h k ≡ weighted a h k + weighted b h k
weighted_both a b h zero = refl
weighted_both a b h (suc k) = ap (λ n. n + (a k + b k) * h k) (weighted_both a b h k) ∙ apart (weighted a h k) (weighted b h k) (a k) (b k) (h k)
  where
    apart : (x y a b m : ℕ) → x + y + (a + b) * m ≡ x + a * m + (y + b * m)
    apart x y a b m = omega arith

-- one number, taken once
weighted_one : (x : ℕ) (h : ℕ → ℕ) (k : ℕ) → x < k → weighted (λ j. cond {A = ℕ} (nat_eq x j) 1 0) h k ≡ h x
weighted_one x h zero l = absurd (omega arith)
weighted_one x h (suc k) l = elim (cases_eq x k) [
  | inl e ↦ ap₂ (λ n b. n + cond {A = ℕ} b 1 0 * h k) (none x h k (omega arith)) (equal x k e) ∙ one (h k) ∙ ap h (sym e)
  | inr n ↦ ap₂ (λ m b. m + cond {A = ℕ} b 1 0 * h k) (weighted_one x h k (omega (arith, n))) (different x k n) ∙ other (h x) (h k)
]
  where
    equal : (a b : ℕ) → a ≡ b → nat_eq a b ≡ true
    equal a b h = grind arith

    different : (a b : ℕ) → (a ≡ b → ⊥) → nat_eq a b ≡ false
    different a b h = grind arith

    one : (m : ℕ) → 0 + 1 * m ≡ m
    one m = omega arith

    other : (n m : ℕ) → n + 0 * m ≡ n
    other n m = omega arith

    none : (x : ℕ) (h : ℕ → ℕ) (k : ℕ) → k ≤ x → weighted (λ j. cond {A = ℕ} (nat_eq x j) 1 0) h k ≡ 0
    none x h zero l = refl
    none x h (suc k) l = ap₂ (λ n b. n + cond {A = ℕ} b 1 0 * h k) (none x h k (omega arith)) (different x k (λ e. omega arith)) ∙ other 0 (h k)

-- a list's numbers, each as often as it stands there
weighted_list : (xs : List ℕ) (h : ℕ → ℕ) (k : ℕ) → ((x : ℕ) → In x xs → x < k) → weighted (λ j. how_often xs j) h k ≡ sum_by h xs
weighted_list [] h k below = none h k
  where
    none : (h : ℕ → ℕ) (k : ℕ) → weighted (λ j. 0) h k ≡ 0
    none h zero = refl
    none h (suc k) = omega (arith, none h k)
weighted_list (x ∷ xs) h k below =
    weighted_same (λ j. how_often (x ∷ xs) j) (λ j. cond {A = ℕ} (nat_eq x j) 1 0 + how_often xs j) h k (λ j. how_often_cons j x xs)
    ∙ weighted_both (λ j. cond {A = ℕ} (nat_eq x j) 1 0) (λ j. how_often xs j) h k
    ∙ ap₂ (λ a b. a + b) (weighted_one x h k (below x (inl refl))) (weighted_list xs h k (λ y i. below y (inr i)))
    ∙ sym (sum_by-cons h x xs)

-- the numbers of a list are within its row
pub row_reaches : (xs f : List ℕ) → IsRowOf xs f → (x : ℕ) → In x xs → x < length f
row_reaches xs f r x i = elim (cases_lt x (length f)) [
  | inl l ↦ l
  | inr l ↦ absurd (let a = how_often_In x xs i in let b = get_or_past f x 0 (omega arith) in let c = r x in omega arith)
]

-- the product of the rows takes the moved row of the second list as often as the first has a number
product_weighted : (k s : ℕ) (f g : List ℕ) (v : ℕ) → product k s f g v ≡ weighted (at f) (λ j. moved (s + j) g v) k
product_weighted zero s f g v = refl
product_weighted (suc k) s f g v = ap (λ n. n + at f k * moved (s + k) g v) (product_weighted k s f g v)

-- the sums, each raised by s
pub product_counts : (s : ℕ) (xs ys f g : List ℕ) → IsRowOf xs f → IsRowOf ys g
    → (v : ℕ) → product (length f) s f g v ≡ how_often (map (λ z. s + z) (sums xs ys)) v
product_counts s xs ys f g r q v =
    product_weighted (length f) s f g v
    ∙ weighted_same (at f) (λ j. how_often xs j) (λ j. moved (s + j) g v) (length f) r
    ∙ weighted_list xs (λ j. moved (s + j) g v) (length f) (row_reaches xs f r)
    ∙ sym (sums_by_element s xs ys g v q)

-- the sums as they are
pub product_sums : (xs ys f g : List ℕ) → IsRowOf xs f → IsRowOf ys g → (v : ℕ) → product (length f) 0 f g v ≡ how_often (sums xs ys) v
product_sums xs ys f g r q v = product_counts 0 xs ys f g r q v ∙ ap (λ (zs : List ℕ). how_often zs v) (raised_none (sums xs ys))
  where
    raised_none : (xs : List ℕ) → map (λ z. 0 + z) xs ≡ xs
    raised_none [] = refl
    raised_none (x ∷ xs) = ap₂ (λ a (zs : List ℕ). a ∷ zs) (omega arith) (raised_none xs)
