-- Where a list has no fault it is a word, and where it has one it isn't.
use Rattle.std.proofs.Common.{◌≡◌, ℕ, zero, suc, ◌<◌, ◌≤◌, Bool, true, false, not, ◌&&◌, ◌||◌, List, [], ◌∷◌, length, get_or, take, refl, sym, ◌∙◌, true≢false, ◌⊎◌, inl, inr, arith, nat_eq, nat_lt, nat_le, ◌==◌, eqb-true, eq-eqb, le-leb, ltb-true, ltb-false, lt-ltb}
use Rattle.std.proofs.lemmas.Grind.{get_or_default_zero}
use Rattle.std.specs.List.{list_any, list_all}
use Rattle.std.proofs.lemmas.List.Folds.{list_any_at, list_all_at}
use Rattle.std.proofs.lemmas.List.Sums.{list_all-from_AllPass}
use Rattle.av_perm.proofs.Tests.{IsLeastOf, least_find}
use Rattle.std.proofs.lemmas.Bool.{and_from, and_left, and_right, or_parts, or_cases, or_from, not_from_true, not_from_false, lt-leb}
use Rattle.av_perm.specs.Word.{is_distinct, is_word, is_perm, is_fault, is_out_of_range, fault_place}
use Rattle.av_perm.specs.declared.limits.TheConstants.{MAX_LENGTH}

-- a test that fails at each place fails of the list
none_any : (p : ℕ → Bool) (xs : List ℕ) → ((k : ℕ) → k < length xs → p (get_or xs k 0) ≡ false) → list_any p xs ≡ false
none_any p [] h = refl
none_any p (x ∷ xs) h = or_from (p x) (list_any p xs) (h zero (omega arith)) (none_any p xs (λ k lt. h (suc k) (omega arith)))

-- numbers that differ differ the other way round
nat_eq_flip : (a b : ℕ) → nat_eq a b ≡ false → nat_eq b a ≡ false
nat_eq_flip a b e = by (nat_eq b a) refl
  where
    by : (t : Bool) → nat_eq b a ≡ t → t ≡ false
    by true f = sym (eq-eqb a b (sym (eqb-true b a f))) ∙ e
    by false f = refl

-- no entry is equal to an earlier one
pub distinct_from : (xs : List ℕ) → ((k : ℕ) → k < length xs → list_any (λ y. y == get_or xs k 0) (take k xs) ≡ false) → is_distinct xs ≡ true
distinct_from [] h = refl
distinct_from (x ∷ xs) h =
    and_from (not (list_any (λ y. y == x) xs)) (is_distinct xs)
    (not_from_false (list_any (λ y. y == x) xs) (none_any (λ y. y == x) xs (λ k lt. nat_eq_flip x (get_or xs k 0) (or_parts (x == get_or xs k 0) (list_any (λ y. y == get_or xs k 0) (take k xs)) (h (suc k) (omega arith))).0)))
    (distinct_from xs (λ k lt. (or_parts (x == get_or xs k 0) (list_any (λ y. y == get_or xs k 0) (take k xs)) (h (suc k) (omega arith))).1))

-- an entry that is equal to an earlier one
pub not_distinct : (xs : List ℕ) (i : ℕ) → i < length xs → list_any (λ y. y == get_or xs i 0) (take i xs) ≡ true → is_distinct xs ≡ false
not_distinct [] i lt e = absurd (omega arith)
not_distinct (x ∷ xs) zero lt e = absurd (true≢false (sym e))
not_distinct (x ∷ xs) (suc i) lt e = by (or_cases (x == get_or xs i 0) (list_any (λ y. y == get_or xs i 0) (take i xs)) e) (not_distinct xs i (omega arith))
  where
    by : (((x == get_or xs i 0) ≡ true) ⊎ (list_any (λ y. y == get_or xs i 0) (take i xs) ≡ true))
        → (list_any (λ y. y == get_or xs i 0) (take i xs) ≡ true → is_distinct xs ≡ false)
        → (not (list_any (λ y. y == x) xs) && is_distinct xs) ≡ false
    by (inl same) deeper = and_left _ _ (not_from_true _ (list_any_at (λ y. y == x) xs i 0 (omega arith) (eq-eqb (get_or xs i 0) x (sym (eqb-true x (get_or xs i 0) same)))))
    by (inr later) deeper = and_right (not (list_any (λ y. y == x) xs)) (is_distinct xs) (deeper later)

-- an entry that is out of range, or not, by the two tests of a word
in_range : (n x : ℕ) → is_out_of_range n x ≡ false → (nat_le 1 x && nat_le x n) ≡ true
in_range n x e = let o = or_parts (nat_eq x 0) (nat_lt n x) e in and_from (nat_le 1 x) (nat_le x n) (le-leb 1 x (low x o.0)) (le-leb x n (ltb-false n x o.1))
  where
    low : (y : ℕ) → nat_eq y 0 ≡ false → 1 ≤ y
    low zero f = absurd (true≢false f)
    low (suc y) f = omega arith

-- an entry out of range fails the tests of a word
out_of_range : (n x : ℕ) → is_out_of_range n x ≡ true → (nat_le 1 x && nat_le x n) ≡ false
out_of_range n x e = by (or_cases (nat_eq x 0) (nat_lt n x) e)
  where
    by : ((nat_eq x 0 ≡ true) ⊎ (nat_lt n x ≡ true)) → (nat_le 1 x && nat_le x n) ≡ false
    by (inl zero_entry) = rw (eqb-true x 0 zero_entry) refl
    by (inr high) = and_right (nat_le 1 x) _ (lt-leb x n (ltb-true n x high))

-- a list of 1 to 160 entries without a fault is a word
pub perm_from : (xs : List ℕ) → 1 ≤ length xs → length xs ≤ MAX_LENGTH → ((k : ℕ) → k < length xs → is_fault xs (suc k) ≡ false) → is_perm xs ≡ true
perm_from xs some few h =
    and_from (is_word xs) _
    (and_from (nat_le 1 (length xs)) _ (le-leb 1 (length xs) some)
    (and_from (list_all (λ x. nat_le 1 x && nat_le x (length xs)) xs) (is_distinct xs)
    (list_all-from_AllPass (λ x. nat_le 1 x && nat_le x (length xs)) xs
    (λ k d lt. rw (get_or_default_zero xs k d lt) (in_range (length xs) (get_or xs k 0) (or_parts (is_out_of_range (length xs) (get_or xs k 0)) (list_any (λ y. y == get_or xs k 0) (take k xs)) (h k lt)).0)))
    (distinct_from xs (λ k lt. (or_parts (is_out_of_range (length xs) (get_or xs k 0)) (list_any (λ y. y == get_or xs k 0) (take k xs)) (h k lt)).1))))
    (le-leb (length xs) MAX_LENGTH few)

-- a list with a fault isn't one
pub not_perm : (xs : List ℕ) (i : ℕ) → i < length xs → is_fault xs (suc i) ≡ true → is_perm xs ≡ false
not_perm xs i lt e = and_left (is_word xs) _ (and_right (nat_le 1 (length xs)) _ (by (or_cases _ _ e)))
  where
    by : ((is_out_of_range (length xs) (get_or xs i 0) ≡ true) ⊎ (list_any (λ y. y == get_or xs i 0) (take i xs) ≡ true))
        → (list_all (λ x. nat_le 1 x && nat_le x (length xs)) xs && is_distinct xs) ≡ false
    by (inl out) = and_left _ _ (list_all_at (λ x. nat_le 1 x && nat_le x (length xs)) xs i 0 lt (out_of_range (length xs) (get_or xs i 0) out))
    by (inr twice) = and_right (list_all (λ x. nat_le 1 x && nat_le x (length xs)) xs) _ (not_distinct xs i lt twice)

-- the place of the first fault
pub fault_place_first : (xs : List ℕ) (i : ℕ) → 1 ≤ length xs → length xs ≤ MAX_LENGTH → i < length xs → is_fault xs (suc i) ≡ true
    → ((k : ℕ) → k < i → is_fault xs (suc k) ≡ false) → fault_place xs ≡ suc i
unfolding fault_place
fault_place_first xs i some few lt here before =
    rw (le-leb 1 (length xs) some, le-leb (length xs) MAX_LENGTH few, least_find (is_fault xs) (length xs) 1 (suc i) first) refl
  where
    earlier : (k : ℕ) → 1 ≤ k → k < suc i → is_fault xs k ≡ false
    earlier zero l h = absurd (omega arith)
    earlier (suc k) l h = before k (omega arith)

    first : IsLeastOf (is_fault xs) 1 (length xs) (suc i)
    first = record { low = omega arith; high = omega arith; passes = here; least = earlier }

-- a length that is none: the length plus 1
pub fault_place_length : (xs : List ℕ) → (nat_le 1 (length xs) && nat_le (length xs) MAX_LENGTH) ≡ false → fault_place xs ≡ suc (length xs)
unfolding fault_place
fault_place_length xs e = rw e refl

-- the three ways to be at fault
pub zero_fault : (xs : List ℕ) (i : ℕ) → get_or xs i 0 ≡ 0 → is_fault xs (suc i) ≡ true
zero_fault xs i e = rw e refl

-- an entry above the length is a fault
pub high_fault : (xs : List ℕ) (i : ℕ) → length xs < get_or xs i 0 → is_fault xs (suc i) ≡ true
high_fault xs i lt = rw (lt-ltb (length xs) (get_or xs i 0) lt) (by (nat_eq (get_or xs i 0) 0))
  where
    by : (t : Bool) → ((t || true) || list_any (λ y. y == get_or xs i 0) (take i xs)) ≡ true
    by true = refl
    by false = refl

-- an entry equal to an earlier one is a fault
pub twice_fault : (xs : List ℕ) (i : ℕ) → list_any (λ y. y == get_or xs i 0) (take i xs) ≡ true → is_fault xs (suc i) ≡ true
twice_fault xs i e = rw e (by (is_out_of_range (length xs) (get_or xs i 0)))
  where
    by : (t : Bool) → (t || true) ≡ true
    by true = refl
    by false = refl

-- a length that is none
pub no_length : (xs : List ℕ) → length xs ≡ 0 → (nat_le 1 (length xs) && nat_le (length xs) MAX_LENGTH) ≡ false
no_length xs e = rw e refl

-- a length above 160 is none
pub long_length : (xs : List ℕ) → MAX_LENGTH < length xs → (nat_le 1 (length xs) && nat_le (length xs) MAX_LENGTH) ≡ false
long_length xs lt = and_right (nat_le 1 (length xs)) _ (lt-leb (length xs) MAX_LENGTH lt)
