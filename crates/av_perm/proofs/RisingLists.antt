-- Strictly increasing lists of numbers are the choices of a run of numbers.
use Rattle.std.proofs.Common.{◌≡◌, ℕ, zero, suc, ◌+◌, ◌<◌, ◌≤◌, inl, inr, List, [], ◌∷◌, ◌++◌, length, refl, sym, ap, subst, arith, add-zero, add-suc, suc-add}
use Rattle.std.proofs.lemmas.Bool.{cases_eq}
use Rattle.av_perm.specs.Lists.{choices, counting, before_each}
use Rattle.av_perm.specs.Relations.{at}
use Rattle.av_perm.proofs.Membership.{In, In_append_cases, append_left, append_right, In_before, before_In}

-- a run of numbers by places
pub length_counting : (n lo : ℕ) → length (counting lo n) ≡ n
length_counting zero lo = refl
length_counting (suc n) lo = ap suc (length_counting n (suc lo))

-- one more number in turn
pub counting_more : (lo n : ℕ) → counting lo n ++ (lo + n) ∷ [] ≡ counting lo (suc n)
counting_more lo zero = rw (add-zero lo) refl
counting_more lo (suc n) = ap (λ (xs : List ℕ). lo ∷ xs) (rw (add-suc lo n, ← suc-add lo n) (counting_more (suc lo) n))

-- the number at a place of a run
pub counting_at : (n lo s : ℕ) → s < n → at (counting lo n) s ≡ lo + s
counting_at zero lo s h = absurd (omega arith)
counting_at (suc n) lo zero h = omega arith
counting_at (suc n) lo (suc s) h = omega (arith, counting_at n (suc lo) s (omega arith))

-- strictly increasing numbers from lo to hi - 1
abbrev pub Rising : ℕ → ℕ → List ℕ → Type 0
Rising lo hi [] = Unit {0}
Rising lo hi (x ∷ xs) = (lo ≤ x) × (x < hi) × Rising (suc x) hi xs

-- the same by places
pub rising_at : (lo hi : ℕ) (xs : List ℕ) → Rising lo hi xs → (s : ℕ) → s < length xs → (lo ≤ at xs s) × (at xs s < hi)
rising_at lo hi [] r s h = absurd (omega arith)
rising_at lo hi (x ∷ xs) r zero h = (r.0, r.1)
rising_at lo hi (x ∷ xs) r (suc s) h = let q = rising_at (suc x) hi xs r.2 s (omega arith) in (omega (arith, r.0, q.0), q.1)

-- a later number is greater
pub rising_up : (lo hi : ℕ) (xs : List ℕ) → Rising lo hi xs → (s t : ℕ) → s < t → t < length xs → at xs s < at xs t
rising_up lo hi [] r s t h k = absurd (omega arith)
rising_up lo hi (x ∷ xs) r zero zero h k = absurd (omega arith)
rising_up lo hi (x ∷ xs) r (suc s) zero h k = absurd (omega arith)
rising_up lo hi (x ∷ xs) r zero (suc t) h k = let q = rising_at (suc x) hi xs r.2 t (omega arith) in omega (arith, q.0)
rising_up lo hi (x ∷ xs) r (suc s) (suc t) h k = rising_up (suc x) hi xs r.2 s t (omega arith) (omega arith)

-- numbers that increase by their places are strictly increasing
pub rising_from : (lo hi : ℕ) (xs : List ℕ) → ((s : ℕ) → s < length xs → (lo ≤ at xs s) × (at xs s < hi))
    → ((s t : ℕ) → s < t → t < length xs → at xs s < at xs t) → Rising lo hi xs
rising_from lo hi [] b u = tt
rising_from lo hi (x ∷ xs) b u =
    let h = b 0 (omega arith) in
    (h.0, h.1, rising_from (suc x) hi xs (λ s k. (u 0 (suc s) (omega arith) (omega arith), (b (suc s) (omega arith)).1)) (λ s t k l. u (suc s) (suc t) (omega arith) (omega arith)))

-- a lower bound may be lowered
rising_lower : (lo lo' hi : ℕ) (xs : List ℕ) → lo' ≤ lo → Rising lo hi xs → Rising lo' hi xs
rising_lower lo lo' hi [] h r = tt
rising_lower lo lo' hi (x ∷ xs) h r = (omega (arith, r.0), r.1, r.2)

-- the choices of k numbers of a run
pub choices_rise : (n k lo : ℕ) (xs : List ℕ) → In xs (choices k (counting lo n)) → (length xs ≡ k) × Rising lo (lo + n) xs
unfolding choices
choices_rise n zero lo xs (inl e) = subst (λ (l : List ℕ). (length l ≡ 0) × Rising lo (lo + n) l) (sym e) (refl, tt)
choices_rise n zero lo xs (inr h) = absurd h
choices_rise zero (suc k) lo xs h = absurd h
choices_rise (suc n) (suc k) lo xs h =
    let e : suc lo + n ≡ lo + suc n = omega arith in
    elim (In_append_cases (before_each lo (choices k (counting (suc lo) n))) (choices (suc k) (counting (suc lo) n)) xs h) [
      | inl i ↦
          let q = In_before lo (choices k (counting (suc lo) n)) xs i in
          let r = choices_rise n k (suc lo) q.0 q.1 in
          subst (λ (l : List ℕ). (length l ≡ suc k) × Rising lo (lo + suc n) l) (sym q.2) (ap suc r.0, (omega arith, omega arith, subst (λ m. Rising (suc lo) m q.0) e r.1))
      | inr i ↦ let r = choices_rise n (suc k) (suc lo) xs i in (r.0, rising_lower (suc lo) lo (lo + suc n) xs (omega arith) (subst (λ m. Rising (suc lo) m xs) e r.1))
    ]

-- strictly increasing numbers of a run are one of its choices
pub rise_choices : (n lo : ℕ) (xs : List ℕ) → Rising lo (lo + n) xs → In xs (choices (length xs) (counting lo n))
unfolding choices
rise_choices n lo [] r = inl refl
rise_choices zero lo (x ∷ xs) r = absurd (omega (arith, r.0, r.1))
rise_choices (suc n) lo (x ∷ xs) r = let e : lo + suc n ≡ suc lo + n = omega arith in elim (cases_eq x lo) [
  | inl q ↦ append_left (before_each lo (choices (length xs) (counting (suc lo) n))) (choices (suc (length xs)) (counting (suc lo) n)) (x ∷ xs)
      (subst (λ y. In (y ∷ xs) (before_each lo (choices (length xs) (counting (suc lo) n)))) (sym q)
      (before_In lo (choices (length xs) (counting (suc lo) n)) xs
      (rise_choices n (suc lo) xs (subst (λ m. Rising (suc lo) m xs) e (subst (λ y. Rising (suc y) (lo + suc n) xs) q r.2)))))
  | inr ne ↦ append_right (before_each lo (choices (length xs) (counting (suc lo) n))) (choices (suc (length xs)) (counting (suc lo) n)) (x ∷ xs)
      (rise_choices n (suc lo) (x ∷ xs) (subst (λ m. Rising (suc lo) m (x ∷ xs)) e (omega (arith, r.0, ne), r.1, r.2)))
]
