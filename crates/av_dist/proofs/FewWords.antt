-- Why no number reaches 2 ^ 128: the words of a node are at most as many as lists of digits, however far its blocks are chosen.
use Rattle.std.proofs.Common.{◌≡◌, ℕ, ◌+◌, ◌-◌, ◌*◌, ◌<◌, ◌≤◌, ◌^◌, List, [], ◌∷◌, length, sym, ap, ◌∙◌, arith, nat_eq}
use Rattle.std.proofs.Math.Nat.{one-le-pow}
use Rattle.std.proofs.lemmas.Nat.{pow-add, mul-le}
use Rattle.std.proofs.lemmas.List.Sums.{count_by-le-length}
use Rattle.av_count.proofs.Choices.{length_pairs}
use Rattle.av_text.specs.declared.limits.TheConstants.{MAX_DISTRIBUTION_LENGTH}
use Rattle.av_dist.specs.Rows.{how_often}
use Rattle.av_dist.specs.Tables.{most_words, AreFew}
use Rattle.av_dist.specs.Totals.{sums}

-- words of a size, and of what is left of it
most_apart : (m left : ℕ) → m ≤ left → most_words left ≡ most_words m * most_words (left - m)
most_apart m left h = let e : m + (left - m) ≡ left = omega arith in ap most_words (sym e) ∙ pow-add 25 m (left - m)

most_some : (n : ℕ) → 1 ≤ most_words n
most_some n = one-le-pow n 25 (omega arith)

-- one number is few
pub one_few : (x n : ℕ) → n ≤ MAX_DISTRIBUTION_LENGTH → AreFew (x ∷ []) n
one_few x n h =
    let p = most_apart n 24 h in
    let q = mul-le (most_words n) 1 (most_words n) (most_words (24 - n)) (omega arith) (most_some (24 - n)) in
    omega (p, q, arith)

-- the sums with the numbers of one child more are few
pub sums_few : (xs ys : List ℕ) (m left : ℕ) → AreFew xs left → length ys ≤ most_words m → m ≤ left → AreFew (sums xs ys) (left - m)
sums_few xs ys m left h k l =
    rw (length_pairs (λ x y. x + y) xs ys)
    (less (length xs) (length ys) (most_words m) (most_words (left - m)) (most_words left) (most_words 24) h k (most_apart m left l))
  where
    less : (x y a b c t : ℕ) → x * c ≤ t → y ≤ a → c ≡ a * b → x * y * b ≤ t
    less x y a b c t h k e =
        let p = mul-le x (y * b) x (a * b) (omega arith) (mul-le y b a b k (omega arith)) in
        let q : x * c ≡ x * (a * b) = ap (λ n. x * n) e in
        let r : x * y * b ≡ x * (y * b) = omega arith in
        omega (p, q, r, h, arith)

-- few numbers are fewer than 2 ^ 128
pub few_fit : (v : ℕ) (xs : List ℕ) (n : ℕ) → AreFew xs n → how_often xs v < 2 ^ 128
few_fit v xs n h = small (how_often xs v) (length xs) (most_words n) (count_by-le-length (λ x. nat_eq x v) xs) (most_some n) h
  where
    small : (t l p : ℕ) → t ≤ l → 1 ≤ p → l * p ≤ 25 ^ 24 → t < 2 ^ 128
    small t l p a b h = let c = mul-le l 1 l p (omega arith) b in omega arith
