-- The least and the greatest of some numbers.
use Rattle.std.proofs.Common.{◌≡◌, ◌⊎◌, inl, inr, ℕ, ◌<◌, ◌≤◌, min, max, List, [], ◌∷◌, length, fold, refl, ◌∙◌, arith}
use Rattle.std.proofs.lemmas.Bool.{cases_lt}
use Rattle.av_perm.specs.Members.{In}
use Rattle.av_session.specs.Runs.{IsSummary}

-- the least is one of the numbers
least_in : (x : ℕ) (xs : List ℕ) → In (fold min x xs) (x ∷ xs)
least_in x [] = inl refl
least_in x (y ∷ ys) = by (least_in (min x y) ys) (cases_lt x y)
  where
    by : In (fold min (min x y) ys) (min x y ∷ ys) → (x < y) ⊎ (y ≤ x) → In (fold min (min x y) ys) (x ∷ y ∷ ys)
    by (inl e) (inl lt) = let m : min x y ≡ x = omega arith in inl (e ∙ m)
    by (inl e) (inr le) = let m : min x y ≡ y = omega arith in inr (inl (e ∙ m))
    by (inr i) c = inr (inr i)

-- none is less
least_below : (x : ℕ) (xs : List ℕ) (z : ℕ) → In z (x ∷ xs) → fold min x xs ≤ z
least_below x [] z (inl e) = omega arith
least_below x [] z (inr i) = absurd i
least_below x (y ∷ ys) z (inl e) = let h = least_below (min x y) ys (min x y) (inl refl) in omega arith
least_below x (y ∷ ys) z (inr (inl e)) = let h = least_below (min x y) ys (min x y) (inl refl) in omega arith
least_below x (y ∷ ys) z (inr (inr i)) = least_below (min x y) ys z (inr i)

-- and so is the greatest
greatest_in : (x : ℕ) (xs : List ℕ) → In (fold max x xs) (x ∷ xs)
greatest_in x [] = inl refl
greatest_in x (y ∷ ys) = by (greatest_in (max x y) ys) (cases_lt x y)
  where
    by : In (fold max (max x y) ys) (max x y ∷ ys) → (x < y) ⊎ (y ≤ x) → In (fold max (max x y) ys) (x ∷ y ∷ ys)
    by (inl e) (inl lt) = let m : max x y ≡ y = omega arith in inr (inl (e ∙ m))
    by (inl e) (inr le) = let m : max x y ≡ x = omega arith in inl (e ∙ m)
    by (inr i) c = inr (inr i)

greatest_above : (x : ℕ) (xs : List ℕ) (z : ℕ) → In z (x ∷ xs) → z ≤ fold max x xs
greatest_above x [] z (inl e) = omega arith
greatest_above x [] z (inr i) = absurd i
greatest_above x (y ∷ ys) z (inl e) = let h = greatest_above (max x y) ys (max x y) (inl refl) in omega arith
greatest_above x (y ∷ ys) z (inr (inl e)) = let h = greatest_above (max x y) ys (max x y) (inl refl) in omega arith
greatest_above x (y ∷ ys) z (inr (inr i)) = greatest_above (max x y) ys z (inr i)

pub is_summary : (xs : List ℕ) → 1 ≤ length xs → IsSummary xs
is_summary [] h = absurd (omega arith)
is_summary (x ∷ xs) h = record { least = least_in x xs; none_less = least_below x xs; greatest = greatest_in x xs; none_greater = greatest_above x xs }
