-- There are so few words of a length up to 10 that a count of some of them fits 64 bits.
use Rattle.std.proofs.Common.{◌≡◌, ℕ, zero, suc, ◌+◌, ◌-◌, ◌*◌, ◌^◌, ◌<◌, ◌≤◌, Bool, not, List, [], ◌∷◌, ◌++◌, length, filter, flat_map, ◌==◌, refl, ap, arith, zero-mul, suc-mul, mul-le-mul_right, pow-suc, le_trans, add-zero, add-suc}
use Rattle.std.proofs.Math.Nat.{pow-zero, pow-succ'}
use Rattle.std.proofs.lemmas.List.{length-append}
use Rattle.std.proofs.lemmas.List.Sums.{length-filter, count_by-le-length}
use Rattle.av_perm.specs.Lists.{counting, before_each}
use Rattle.av_perm.specs.Word.{arrangements, words}
use Rattle.av_perm.proofs.RisingLists.{length_counting}

-- how many lists x is put before
length_before_each : (x : ℕ) (rs : List (List ℕ)) → length (before_each x rs) ≡ length rs
length_before_each x [] = refl
length_before_each x (r ∷ rs) = ap suc (length_before_each x rs)

-- a filtered list is no longer
filter_few : (p : ℕ → Bool) (xs : List ℕ) (n : ℕ) → length xs ≤ n → length (filter p xs) ≤ n
filter_few p xs n few = omega (arith, length-filter p xs, count_by-le-length p xs)

-- lists of at most b elements, one for each of n numbers
flat_map_few : (f : ℕ → List (List ℕ)) (b : ℕ) (ys : List ℕ) → ((y : ℕ) → length (f y) ≤ b) → length (flat_map f ys) ≤ length ys * b
flat_map_few f b [] few = omega (arith, zero-mul b)
flat_map_few f b (y ∷ ys) few = omega (arith, length-append (f y) (flat_map f ys), few y, flat_map_few f b ys few, suc-mul (length ys) b)

-- k of n numbers have at most n ^ k arrangements
arrangements_few : (n k : ℕ) (xs : List ℕ) → length xs ≤ n → length (arrangements k xs) ≤ n ^ k
unfolding arrangements
arrangements_few n zero xs few = rw pow-zero (omega arith)
arrangements_few n (suc k) xs few =
    let pieces : length (flat_map (λ x. before_each x (arrangements k (filter (λ y. not (y == x)) xs))) xs) ≤ length xs * n ^ k =
    flat_map_few (λ x. before_each x (arrangements k (filter (λ y. not (y == x)) xs))) (n ^ k) xs
    (λ x. omega (arith, length_before_each x (arrangements k (filter (λ y. not (y == x)) xs)), arrangements_few n k (filter (λ y. not (y == x)) xs) (filter_few (λ y. not (y == x)) xs n few))) in
    rw (pow-succ' n k) (le_trans pieces (mul-le-mul_right (n ^ k) few))

-- powers of 10 grow
ten_grows : (n d : ℕ) → 10 ^ n ≤ 10 ^ (n + d)
ten_grows n zero = rw (add-zero n) (omega arith)
ten_grows n (suc d) = rw (add-suc n d, pow-suc 10 (n + d)) (omega (arith, ten_grows n d))

-- there are so few words of a length up to 10 that a count of them fits 64 bits
pub words_few : (n : ℕ) → n ≤ 10 → length (words n) ≤ 10 ^ 10
words_few n few =
    let e : n + (10 - n) ≡ 10 = omega arith in
    le_trans (arrangements_few 10 n (counting 1 n) (omega (arith, length_counting n 1)))
    (rw e at (ten_grows n (10 - n)))

-- so a count of those of the first ones that pass a test, and of one more, fits too
pub count_fits : (n : ℕ) (p : List ℕ → Bool) (first rest : List (List ℕ)) → n ≤ 10 → first ++ rest ≡ words n → length (filter p first) + 1 < 2 ^ 64
count_fits n p first rest few e =
    omega (arith, words_few n few, ap length e, length-append first rest, length-filter p first, count_by-le-length p first)
