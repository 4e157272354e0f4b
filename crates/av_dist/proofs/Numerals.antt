-- Lists of digits, read as numerals: different lists of n digits to a base are at most as many as its n-th power.
use Rattle.std.proofs.Common.{◌≡◌, ◌≢◌, ℕ, suc, ◌+◌, ◌*◌, ◌^◌, ◌<◌, ◌≤◌, List, [], ◌∷◌, length, refl, sym, ap₂, ◌∙◌, inl, inr, subst, arith}
use Rattle.std.proofs.Math.Nat.{pow-zero, pow-succ', mul-le-mul_left}
use Rattle.std.proofs.lemmas.Bool.{cases_lt}
use Rattle.av_perm.specs.Relations.{at}
use Rattle.av_perm.proofs.Pigeons.{pigeons}

-- entries below the base
abbrev pub AreDigits : ℕ → List ℕ → Type 0
AreDigits base w = (s : ℕ) → s < length w → at w s < base

-- the number that they write to the base, the first least
numeral : ℕ → List ℕ → ℕ
numeral base [] = 0
numeral base (x ∷ xs) = x + base * numeral base xs

rest_digits : (base x : ℕ) (xs : List ℕ) → AreDigits base (x ∷ xs) → AreDigits base xs
rest_digits base x xs d s h = d (suc s) (omega arith)

numeral_below : (base : ℕ) (w : List ℕ) → AreDigits base w → numeral base w < base ^ length w
unfolding numeral
numeral_below base [] d = omega (arith, pow-zero base)
numeral_below base (x ∷ xs) d =
    let below : suc (numeral base xs) ≤ base ^ length xs = omega (arith, numeral_below base xs (rest_digits base x xs d)) in
    let product = mul-le-mul_left base below in
    omega (arith, d 0 (omega arith), product, pow-succ' base (length xs))

-- it tells the entries
first_tells : (base x y m n : ℕ) → x < base → y < base → m < n → x + base * m ≡ y + base * n → ⊥
first_tells base x y m n h k l e =
    let product = mul-le-mul_left base l in
    omega (arith, product)

numeral_tells : (base : ℕ) (v w : List ℕ) → length v ≡ length w → AreDigits base v → AreDigits base w → numeral base v ≡ numeral base w → v ≡ w
unfolding numeral
numeral_tells base [] [] l d e q = refl
numeral_tells base [] (y ∷ ys) l d e q = absurd (omega arith)
numeral_tells base (x ∷ xs) [] l d e q = absurd (omega arith)
numeral_tells base (x ∷ xs) (y ∷ ys) l d e q =
    ap₂ (λ z zs. z ∷ zs) first (numeral_tells base xs ys (omega arith) (rest_digits base x xs d) (rest_digits base y ys e) others)
  where
    others : numeral base xs ≡ numeral base ys
    others = elim (cases_lt (numeral base xs) (numeral base ys)) [
      | inl less ↦ absurd (first_tells base x y (numeral base xs) (numeral base ys) (d 0 (omega arith)) (e 0 (omega arith)) less q)
      | inr most ↦ elim (cases_lt (numeral base ys) (numeral base xs)) [
        | inl less ↦ absurd (first_tells base y x (numeral base ys) (numeral base xs) (e 0 (omega arith)) (d 0 (omega arith)) less (sym q))
        | inr least ↦ omega arith
      ]
    ]

    first : x ≡ y
    first = omega (arith, rw others at q)

-- a list of n digits
pub record HasDigits (base n : ℕ) (w : List ℕ) : Type 0 where
  pub long : length w ≡ n
  pub digits : AreDigits base w

-- different lists of n digits are no more than there are numbers below the power
pub few_by_digits : (base n count : ℕ) (word : ℕ → List ℕ) → ((s : ℕ) → s < count → HasDigits base n (word s))
    → ((s t : ℕ) → s < t → t < count → word s ≢ word t) → count ≤ base ^ n
few_by_digits base n count word digits apart =
    pigeons (base ^ n) count (λ s. numeral base (word s))
    (λ s h. let a = digits s h in subst (λ j. numeral base (word s) < base ^ j) a.long (numeral_below base (word s) a.digits))
    (λ s t less within e.
    let a = digits s (omega arith) in
    let b = digits t within in
    apart s t less within (numeral_tells base (word s) (word t) (a.long ∙ sym b.long) a.digits b.digits e))
