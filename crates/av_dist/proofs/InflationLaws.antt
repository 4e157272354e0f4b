-- The law of statistics of inflations. The recursion for what the inversions of the root add is a sum over all pairs of places.
use Rattle.std.proofs.Common.{◌≡◌, ℕ, zero, suc, ◌+◌, ◌*◌, ◌<◌, Bool, true, false, ◌&&◌, cond, List, [], ◌∷◌, map, length, refl, sym, ap, ap₂, ◌∙◌, arith, nat_lt, sum_by}
use Rattle.std.proofs.lemmas.List.{length-map, get_or-map}
use Rattle.std.proofs.lemmas.List.Sums.{sum_by-cons}
use Rattle.av_perm.specs.Lists.{counting}
use Rattle.av_perm.specs.Relations.{at, block}
use Rattle.av_dist.specs.Crossing.{lesser, crossing}
use Rattle.av_dist.specs.Laws.{sum_below, is_inversion, InflationStatisticsLaw}
use Rattle.av_dist.proofs.InflationInversions.{inversions_are}
use Rattle.av_dist.proofs.InflationDescents.{descents_are}

-- a sum over numbers from one on, and from the next on
sum_next : (f : ℕ → ℕ) (lo n : ℕ) → sum_by f (counting (suc lo) n) ≡ sum_by (λ i. f (suc i)) (counting lo n)
sum_next f lo zero = refl
sum_next f lo (suc n) =
    sum_by-cons f (suc lo) (counting (suc (suc lo)) n)
    ∙ ap (λ s. f (suc lo) + s) (sum_next f (suc lo) n)
    ∙ sym (sum_by-cons (λ i. f (suc i)) lo (counting (suc lo) n))

sum_first : (f : ℕ → ℕ) (n : ℕ) → sum_below f (suc n) ≡ f 0 + sum_below (λ i. f (suc i)) n
sum_first f n = sum_by-cons f 0 (counting 1 n) ∙ ap (λ s. f 0 + s) (sum_next f 0 n)

-- equal numbers have equal sums
sum_same : (f g : ℕ → ℕ) (n : ℕ) → ((i : ℕ) → i < n → f i ≡ g i) → sum_below f n ≡ sum_below g n
sum_same f g zero h = refl
sum_same f g (suc n) h =
    sum_first f n ∙ ap₂ (λ a b. a + b) (h 0 (omega arith)) (sum_same (λ i. f (suc i)) (λ i. g (suc i)) n (λ i l. h (suc i) (omega arith))) ∙ sym (sum_first g n)

-- the product of the sizes at an inversion
abbrev crossed : List ℕ → List ℕ → ℕ → ℕ → ℕ
crossed w ns i j = cond (is_inversion w i j) (at ns i * at ns j) 0

-- what the inversions with the first place add
lesser_sum : (x n : ℕ) (xs ns : List ℕ) → length ns ≡ length xs → sum_below (λ j. cond (nat_lt (at xs j) x) (n * at ns j) 0) (length xs) ≡ n * lesser x xs ns
lesser_sum x n [] ns e = omega arith
lesser_sum x n (y ∷ xs) [] e = absurd (omega arith)
lesser_sum x n (y ∷ xs) (m ∷ ns) e =
    sum_first (λ j. cond (nat_lt (at (y ∷ xs) j) x) (n * at (m ∷ ns) j) 0) (length xs)
    ∙ ap₂ (λ a b. a + b) (out n m (nat_lt y x)) (lesser_sum x n xs ns (omega arith))
    ∙ whole n (cond (nat_lt y x) m 0) (lesser x xs ns)
  where
    out : (n m : ℕ) (b : Bool) → cond b (n * m) 0 ≡ n * cond b m 0
    out n m true = refl
    out n m false = omega arith

    whole : (n a b : ℕ) → n * a + n * b ≡ n * (a + b)
    whole n a b = omega arith

-- those with the first place, and those of the rest
crossed_first : (x n : ℕ) (xs ns : List ℕ) (k : ℕ)
    → sum_below (crossed (x ∷ xs) (n ∷ ns) 0) (suc k) ≡ sum_below (λ j. cond (nat_lt (at xs j) x) (n * at ns j) 0) k
crossed_first x n xs ns k =
    let same = sum_same (λ j. crossed (x ∷ xs) (n ∷ ns) 0 (suc j)) (λ j. cond (nat_lt (at xs j) x) (n * at ns j) 0) k (λ j l. first j) in
    sum_first (crossed (x ∷ xs) (n ∷ ns) 0) k ∙ omega arith
  where
    first : (j : ℕ) → crossed (x ∷ xs) (n ∷ ns) 0 (suc j) ≡ cond (nat_lt (at xs j) x) (n * at ns j) 0
    first j = ap (λ b. cond (b && nat_lt (at xs j) x) (n * at ns j) 0) (some j)
      where
        some : (j : ℕ) → nat_lt 0 (suc j) ≡ true
        some j = grind arith

crossed_later : (x n : ℕ) (xs ns : List ℕ) (k i : ℕ) → sum_below (crossed (x ∷ xs) (n ∷ ns) (suc i)) (suc k) ≡ sum_below (crossed xs ns i) k
crossed_later x n xs ns k i =
    let first = none i in
    let same = sum_same (λ j. crossed (x ∷ xs) (n ∷ ns) (suc i) (suc j)) (crossed xs ns i) k (λ j l. next i j) in
    sum_first (crossed (x ∷ xs) (n ∷ ns) (suc i)) k ∙ omega arith
  where
    none : (i : ℕ) → crossed (x ∷ xs) (n ∷ ns) (suc i) 0 ≡ 0
    none i = ap (λ b. cond (b && nat_lt x (at xs i)) (at ns i * n) 0) (never i)
      where
        never : (i : ℕ) → nat_lt (suc i) 0 ≡ false
        never i = grind arith

    next : (i j : ℕ) → crossed (x ∷ xs) (n ∷ ns) (suc i) (suc j) ≡ crossed xs ns i j
    next i j = ap (λ b. cond (b && nat_lt (at xs j) (at xs i)) (at ns i * at ns j) 0) (alike i j)
      where
        alike : (i j : ℕ) → nat_lt (suc i) (suc j) ≡ nat_lt i j
        alike i j = grind arith

crossing_sum : (w ns : List ℕ) → length ns ≡ length w → crossing w ns ≡ sum_below (λ i. sum_below (crossed w ns i) (length w)) (length w)
crossing_sum [] ns e = refl
crossing_sum (x ∷ xs) [] e = absurd (omega arith)
crossing_sum (x ∷ xs) (n ∷ ns) e =
    let k = length xs in
    let here = crossed_first x n xs ns k ∙ lesser_sum x n xs ns (omega arith) in
    let later =
    crossing_sum xs ns (omega arith)
    ∙ sym (sum_same (λ i. sum_below (crossed (x ∷ xs) (n ∷ ns) (suc i)) (suc k)) (λ i. sum_below (crossed xs ns i) k) k (λ i l. crossed_later x n xs ns k i)) in
    ap₂ (λ a b. a + b) (sym here) later ∙ sym (sum_first (λ i. sum_below (crossed (x ∷ xs) (n ∷ ns) i) (suc k)) k)

pub inflation_statistics_law : InflationStatisticsLaw
inflation_statistics_law π αs w b = record {
  inversions_are = inversions_are π αs w b;
  crossing_is = crossing_sum π (map length αs) (length-map αs (λ (a : List ℕ). length a) ∙ b.count)
      ∙ sum_same _ _ (length π) (λ i h. sum_same _ _ (length π) (λ j k. ap₂ (λ n m. cond (is_inversion π i j) (n * m) 0) (sized i h) (sized j k)));
  descents_are = descents_are π αs w b;
}
  where
    sized : (i : ℕ) → i < length π → at (map length αs) i ≡ length (block αs i)
    sized i h = let c = b.count in get_or-map length αs i [] 0 (omega arith)
