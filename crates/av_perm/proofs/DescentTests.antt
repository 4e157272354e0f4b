-- The tests for entries that descend, as facts.
use Rattle.std.proofs.Common.{◌≡◌, ℕ, zero, suc, ◌<◌, true, List, [], ◌∷◌, length, get_or, drop, nat_lt, refl, arith, lt-ltb, ltb-true}
use Rattle.std.proofs.lemmas.Bool.{and_parts, and_from}
use Rattle.av_perm.specs.LexOrder.{are_below, descends}
use Rattle.av_perm.proofs.Monotone.{Below, Falls}

-- the last entry alone descends
pub descends_last : (xs : List ℕ) (i : ℕ) → length xs ≡ suc i → descends (drop i xs) ≡ true
descends_last [] i e = absurd (omega arith)
descends_last (x ∷ []) zero e = refl
descends_last (x ∷ y ∷ ys) zero e = absurd (omega arith)
descends_last (x ∷ xs) (suc i) e = descends_last xs i (omega arith)

-- an entry that is above the next
pub descends_more : (xs : List ℕ) (i j : ℕ) → i ≡ suc j → i < length xs → get_or xs i 0 < get_or xs j 0 → descends (drop i xs) ≡ true → descends (drop j xs) ≡ true
descends_more [] i j e within lt h = absurd (omega arith)
descends_more (x ∷ xs) zero j e within lt h = absurd (omega arith)
descends_more (x ∷ xs) (suc i) (suc j) e within lt h = descends_more xs i j (omega arith) (omega arith) lt h
descends_more (x ∷ []) (suc i) zero e within lt h = absurd (omega arith)
descends_more (x ∷ y ∷ ys) (suc zero) zero e within lt h =
    and_from (are_below x (y ∷ ys)) (descends (y ∷ ys)) (and_from (nat_lt y x) (are_below x ys) (lt-ltb y x lt) (below_all ys (and_parts (are_below y ys) (descends ys) h).0)) h
  where
    below_all : (zs : List ℕ) → are_below y zs ≡ true → are_below x zs ≡ true
    below_all [] b = refl
    below_all (z ∷ zs) b =
        and_from (nat_lt z x) (are_below x zs) (lt-ltb z x (let l : z < y = ltb-true z y (and_parts (nat_lt z y) (are_below y zs) b).0 in omega arith))
        (below_all zs (and_parts (nat_lt z y) (are_below y zs) b).1)
descends_more (x ∷ y ∷ ys) (suc (suc i)) zero e within lt h = absurd (omega arith)

-- the tests of an order, as facts
pub below_of : (x : ℕ) (ys : List ℕ) → are_below x ys ≡ true → Below x ys
below_of x [] b = tt
below_of x (y ∷ ys) b = (ltb-true y x (and_parts (nat_lt y x) (are_below x ys) b).0, below_of x ys (and_parts (nat_lt y x) (are_below x ys) b).1)

pub falls_of : (xs : List ℕ) → descends xs ≡ true → Falls xs
falls_of [] d = tt
falls_of (x ∷ xs) d = (below_of x xs (and_parts (are_below x xs) (descends xs) d).0, falls_of xs (and_parts (are_below x xs) (descends xs) d).1)
