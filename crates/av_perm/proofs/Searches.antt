-- Decisions, and the least and the greatest number that has a property.
use Rattle.std.proofs.Common.{◌≡◌, ℕ, zero, suc, ◌<◌, ◌≤◌, ◌⊎◌, inl, inr, ◌↔◌, ap, subst, arith}
use Rattle.std.proofs.lemmas.Bool.{cases_lt}
use Rattle.av_perm.proofs.Pigeons.{search_below}

-- decisions
abbrev pub Decided : Type 0 → Type 0
Decided X = X ⊎ (X → ⊥)

-- less is decided
pub lt_decided : (a b : ℕ) → Decided (a < b)
lt_decided a b = elim (cases_lt a b) [ inl l ↦ inl l | inr l ↦ inr (λ k. omega arith) ]

-- at most is decided
pub le_decided : (a b : ℕ) → Decided (a ≤ b)
le_decided a b = elim (cases_lt b a) [ inl l ↦ inr (λ k. omega arith) | inr l ↦ inl l ]

-- two together are decided where each is
pub both_decided : {X Y : Type 0} → Decided X → Decided Y → Decided (X × Y)
both_decided (inl x) (inl y) = inl (x, y)
both_decided (inl x) (inr y) = inr (λ p. y p.1)
both_decided (inr x) d = inr (λ p. x p.0)

-- one of two is decided where each is
pub either_decided : {X Y : Type 0} → Decided X → Decided Y → Decided (X ⊎ Y)
either_decided (inl x) d = inl (inl x)
either_decided (inr x) (inl y) = inl (inr y)
either_decided (inr x) (inr y) = inr (λ s. elim s [ inl p ↦ x p | inr p ↦ y p ])

-- that some number below n has a property is decided where the property is
pub some_decided : (n : ℕ) (P : ℕ → Type 0) → ((i : ℕ) → Decided (P i)) → Decided ((i : ℕ) × (i < n) × P i)
some_decided n P d = elim (search_below n P (λ i h. d i)) [ inl r ↦ inl r | inr f ↦ inr (λ r. f r.0 r.1 r.2) ]

-- that two say the same is decided where each is
pub iff_decided : {X Y : Type 0} → Decided X → Decided Y → Decided (X ↔ Y)
iff_decided (inl x) (inl y) = inl (λ a. y, λ b. x)
iff_decided (inl x) (inr y) = inr (λ p. y (p.0 x))
iff_decided (inr x) (inl y) = inr (λ p. x (p.1 y))
iff_decided (inr x) (inr y) = inl (λ a. absurd (x a), λ b. absurd (y b))

-- the opposite is decided
pub not_decided : {X : Type 0} → Decided X → Decided (X → ⊥)
not_decided (inl x) = inr (λ f. f x)
not_decided (inr x) = inl x

-- the least number that has it, and the greatest
pub least : (n : ℕ) (P : ℕ → Type 0) → ((i : ℕ) → i < n → P i ⊎ (P i → ⊥)) → (s : ℕ) → s < n → P s → (a : ℕ) × (a < n) × P a × ((i : ℕ) → i < a → P i → ⊥)
least zero P d s h p = absurd (omega arith)
least (suc n) P d s h p = elim (search_below n P (λ i l. d i (omega arith))) [
  | inl r ↦ let m = least n P (λ i l. d i (omega arith)) r.0 r.1 r.2 in (m.0, omega (arith, m.1), m.2, m.3)
  | inr f ↦ (n, omega arith, subst P (elim (cases_lt s n) [ inl l ↦ absurd (f s l p) | inr l ↦ omega arith ]) p, f)
]

-- the greatest number below n that has a property
pub greatest : (n : ℕ) (P : ℕ → Type 0) → ((i : ℕ) → i < n → P i ⊎ (P i → ⊥)) → (s : ℕ) → s < n → P s
    → (a : ℕ) × (a < n) × P a × ((i : ℕ) → a < i → i < n → P i → ⊥)
greatest zero P d s h p = absurd (omega arith)
greatest (suc n) P d s h p = elim (d n (omega arith)) [
  | inl q ↦ (n, omega arith, q, λ i l m. absurd (omega arith))
  | inr q ↦
      let m = greatest n P (λ i l. d i (omega arith)) s (elim (cases_lt s n) [ inl l ↦ l | inr l ↦ let e : s ≡ n = omega arith in absurd (q (subst P e p)) ]) p in
      (m.0, omega (arith, m.1), m.2, λ i l o r. elim (cases_lt i n) [ inl k ↦ m.3 i l k r | inr k ↦ let e : i ≡ n = omega arith in q (subst P e r) ])
]

-- a place of the least value
pub minimum : (m : ℕ) (f : ℕ → ℕ) → 1 ≤ m → (r : ℕ) × (r < m) × ((s : ℕ) → s < m → f r ≤ f s)
minimum zero f h = absurd (omega arith)
minimum (suc zero) f h = (0, omega arith, λ s l. let e : s ≡ 0 = omega arith in let g : f s ≡ f 0 = ap f e in omega arith)
minimum (suc (suc m)) f h =
    let r = minimum (suc m) f (omega arith) in
    elim (cases_lt (f (suc m)) (f r.0)) [
      | inl l ↦ (suc m, omega arith, λ s k. elim (cases_lt s (suc m)) [ inl o ↦ let q = r.2 s o in omega arith | inr o ↦ let e : s ≡ suc m = omega arith in let g : f s ≡ f (suc m) = ap f e in omega arith ])
      | inr l ↦ (r.0, omega (arith, r.1), λ s k. elim (cases_lt s (suc m)) [ inl o ↦ r.2 s o | inr o ↦ let e : s ≡ suc m = omega arith in let g : f s ≡ f (suc m) = ap f e in omega arith ])
    ]
