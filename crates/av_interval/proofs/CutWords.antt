-- A word without 2413 and 3142 is cut into a lower and an upper part.
use Rattle.std.proofs.Common.{ℕ, zero, suc, ◌≡◌, ◌<◌, ◌≤◌, ◌⊎◌, List, length, inl, inr, sym, ◌∙◌, arith, ◌+◌, get_or}
use Rattle.std.proofs.lemmas.Bool.{cases_lt, cases_order}
use Rattle.std.proofs.lemmas.List.{get_or_default, get_or_past}
use Rattle.av_perm.specs.Relations.{at, IsOneToLength}
use Rattle.av_interval.proofs.OrderCuts.{Back, Cut, FourPlaces, cut_or_four}
use Rattle.av_interval.proofs.Frames.{once_at}

-- the first k entries lie below all the others
abbrev pub LiesBelow : List ℕ → ℕ → Type 0
LiesBelow σ k = (i j : ℕ) → i < k → k ≤ j → j < length σ → at σ i < at σ j

-- or above them
abbrev pub LiesAbove : List ℕ → ℕ → Type 0
LiesAbove σ k = (i j : ℕ) → i < k → k ≤ j → j < length σ → at σ j < at σ i

-- the entries of a word by place, and past its end other numbers, so that no two are equal
abbrev pub value : List ℕ → ℕ → ℕ
value σ k = get_or σ k (length σ + 1 + k)

-- within the word it is the entry
pub value_in : (σ : List ℕ) (k : ℕ) → k < length σ → value σ k ≡ at σ k
value_in σ k h = get_or_default σ k (length σ + 1 + k) 0 h

-- past its end it is above all entries
pub value_past : (σ : List ℕ) (k : ℕ) → length σ ≤ k → value σ k ≡ length σ + 1 + k
value_past σ k h = get_or_past σ k (length σ + 1 + k) h

-- no two are equal
pub value_once : (σ : List ℕ) → IsOneToLength σ → (i j : ℕ) → value σ i ≡ value σ j → i ≡ j
value_once σ w i j e = elim (cases_lt i (length σ)) [
  | inl li ↦ elim (cases_lt j (length σ)) [
    | inl lj ↦ once_at σ w i j li lj (sym (value_in σ i li) ∙ e ∙ value_in σ j lj)
    | inr gj ↦ absurd (omega (arith, value_in σ i li, value_past σ j gj, (w.within i li).1, e))
  ]
  | inr gi ↦ elim (cases_lt j (length σ)) [
    | inl lj ↦ absurd (omega (arith, value_past σ i gi, value_in σ j lj, (w.within j lj).1, e))
    | inr gj ↦ omega (arith, value_past σ i gi, value_past σ j gj, e)
  ]
]

-- one value is below another
abbrev pub Less : List ℕ → ℕ → ℕ → Type 0
Less σ i j = value σ i < value σ j

-- values of two places differ
pub less_or : (σ : List ℕ) → IsOneToLength σ → (i j : ℕ) → (i ≡ j → ⊥) → Less σ i j ⊎ Less σ j i
less_or σ w i j ne = elim (cases_order (value σ i) (value σ j)) [ inl e ↦ absurd (ne (value_once σ w i j e)) | inr d ↦ d ]

-- and their order is transitive
pub less_trans : (σ : List ℕ) (i j k : ℕ) → Less σ i j → Less σ j k → Less σ i k
less_trans σ i j k a b = omega (arith, a, b)

-- a word of two or more entries is cut, or has four places with a 3142 or a 2413
pub cut_of : (σ : List ℕ) → IsOneToLength σ → 2 ≤ length σ
    → ((k : ℕ) × (1 ≤ k) × (k < length σ) × (LiesBelow σ k ⊎ LiesAbove σ k)) ⊎ (FourPlaces (Less σ) (length σ) ⊎ FourPlaces (Back (Less σ)) (length σ))
cut_of σ w h = elim (cut_at (length σ) h (Less σ) (less_or σ w) (less_trans σ)) [
  | inl c ↦ inl (
    c.0,
    c.1,
    c.2,
    elim c.3 [
      | inl up ↦ inl (λ i j a b d. omega (arith, up i j a b d, value_in σ i (omega (arith, a, b, d)), value_in σ j d))
      | inr up ↦ inr (λ i j a b d. omega (arith, up i j a b d, value_in σ i (omega (arith, a, b, d)), value_in σ j d))
    ],
  )
  | inr q ↦ inr q
]
  where
    cut_at : (n : ℕ) → 2 ≤ n → (R : ℕ → ℕ → Type 0) → ((i j : ℕ) → (i ≡ j → ⊥) → R i j ⊎ R j i) → ((i j k : ℕ) → R i j → R j k → R i k) → Cut R n ⊎ (FourPlaces R n ⊎ FourPlaces (Back R) n)
    cut_at zero l R tri trans = absurd (omega arith)
    cut_at (suc zero) l R tri trans = absurd (omega arith)
    cut_at (suc (suc n)) l R tri trans = cut_or_four R tri trans n
