-- Numbers f 0, .., f (n - 1) have a simple quotient where some of them have no proper block, and the others go with these.
use Rattle.std.proofs.Common.{◌≡◌, ℕ, zero, suc, ◌+◌, ◌<◌, ◌≤◌, ◌≢◌, ◌⊎◌, inl, inr, ◌↔◌, refl, ap, arith}
use Rattle.std.proofs.lemmas.Bool.{cases_eq, cases_order}
use Rattle.av_perm.proofs.BlockIntervals.{Apart, IsProperBlock}
use Rattle.av_perm.proofs.Cuts.{IsCut}

-- there is no cut with all before below all others, and none with all before above all others
pub record IsUncut (n : ℕ) (f : ℕ → ℕ) : Type 0 where
  pub up : (c : ℕ) → IsCut (λ s t. f s < f t) n c → ⊥
  pub down : (c : ℕ) → IsCut (λ s t. f t < f s) n c → ⊥

-- each place goes to a child, and numbers of different children lie as those at the children's own places, which have no proper block
pub record SimpleQuotient (n : ℕ) (f : ℕ → ℕ) : Type 0 where
  pub size : ℕ
  pub place : ℕ → ℕ
  pub child : ℕ → ℕ
  pub long : 4 ≤ size
  pub places : (i : ℕ) → i < size → place i < n
  pub back : (i : ℕ) → i < size → child (place i) ≡ i
  pub children : (s : ℕ) → s < n → child s < size
  pub rising : (s t : ℕ) → s < t → t < n → child s ≤ child t
  pub across : (s t : ℕ) → s < n → t < n → child s ≢ child t → (f s < f t) ↔ (f (place (child s)) < f (place (child t)))
  pub bare : (a m : ℕ) → IsProperBlock size (λ i. f (place i)) a m → ⊥

-- two different numbers have a cut
two_cut : (f : ℕ → ℕ) → Apart 2 f → IsUncut 2 f → ⊥
two_cut f d u = elim (cases_order (f 0) (f 1)) [
  | inl q ↦ d 0 1 (omega arith) (omega arith) q
  | inr (inl l) ↦ u.up 1 (record { some = omega arith; fits = omega arith; lie = λ s t x y z. let e = ends s t x y z in omega (arith, e) })
  | inr (inr l) ↦ u.down 1 (record { some = omega arith; fits = omega arith; lie = λ s t x y z. let e = ends s t x y z in omega (arith, e) })
]
  where
    ends : (s t : ℕ) → s < 1 → 1 ≤ t → t < 2 → (f s ≡ f 0) × (f t ≡ f 1)
    ends s t x y z = (ap f (omega arith), ap f (omega arith))

-- the number at one of two neighbouring places is that at the first or that at the next
here_or_next : (f : ℕ → ℕ) (i s : ℕ) → i ≤ s → s < i + 2 → (f s ≡ f i) ⊎ (f s ≡ f (i + 1))
here_or_next f i s h l = elim (cases_eq s i) [
  | inl q ↦ inl (ap f q)
  | inr q ↦ let e : s ≡ i + 1 = omega (arith, q) in inr (ap f e)
]

-- three different numbers have a cut, since the first or the last lies below both others, or above both
three_cut : (f : ℕ → ℕ) → Apart 3 f → IsUncut 3 f → ⊥
three_cut f d u = elim (cases_order (f 0) (f 1)) [
  | inl q ↦ d 0 1 (omega arith) (omega arith) q
  | inr (inl l) ↦ elim (cases_order (f 0) (f 2)) [
    | inl q ↦ d 0 2 (omega arith) (omega arith) q
    | inr (inl k) ↦ u.up 1 (record { some = omega arith; fits = omega arith; lie = λ s t x y z. let e = first s t x y z in omega (arith, e) })
    | inr (inr k) ↦ u.down 2 (record { some = omega arith; fits = omega arith; lie = λ s t x y z. let e = last s t x y z in omega (arith, e) })
  ]
  | inr (inr l) ↦ elim (cases_order (f 0) (f 2)) [
    | inl q ↦ d 0 2 (omega arith) (omega arith) q
    | inr (inl k) ↦ u.up 2 (record { some = omega arith; fits = omega arith; lie = λ s t x y z. let e = last s t x y z in omega (arith, e) })
    | inr (inr k) ↦ u.down 1 (record { some = omega arith; fits = omega arith; lie = λ s t x y z. let e = first s t x y z in omega (arith, e) })
  ]
]
  where
    first : (s t : ℕ) → s < 1 → 1 ≤ t → t < 3 → (f s ≡ f 0) × ((f t ≡ f 1) ⊎ (f t ≡ f 2))
    first s t x y z = (ap f (omega arith), here_or_next f 1 t y z)

    last : (s t : ℕ) → s < 2 → 2 ≤ t → t < 3 → ((f s ≡ f 0) ⊎ (f s ≡ f 1)) × (f t ≡ f 2)
    last s t x y z = (here_or_next f 0 s (omega arith) x, ap f (omega arith))

-- different numbers without a cut are at least four
at_least_four : (n : ℕ) (f : ℕ → ℕ) → 2 ≤ n → Apart n f → IsUncut n f → 4 ≤ n
at_least_four zero f h d u = absurd (omega arith)
at_least_four (suc zero) f h d u = absurd (omega arith)
at_least_four (suc (suc zero)) f h d u = absurd (two_cut f d u)
at_least_four (suc (suc (suc zero))) f h d u = absurd (three_cut f d u)
at_least_four (suc (suc (suc (suc n)))) f h d u = omega arith

-- different numbers without a cut and without a proper block are their own simple quotient
pub own_quotient : (n : ℕ) (f : ℕ → ℕ) → 2 ≤ n → Apart n f → IsUncut n f → ((a m : ℕ) → IsProperBlock n f a m → ⊥) → SimpleQuotient n f
own_quotient n f h d u bare = record {
  size = n;
  place = λ i. i;
  child = λ s. s;
  long = at_least_four n f h d u;
  places = λ i l. l;
  back = λ i l. refl;
  children = λ s l. l;
  rising = λ s t l m. omega arith;
  across = λ s t l m ne. (λ x. x, λ x. x);
  bare = bare;
}
