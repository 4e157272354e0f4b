-- Intervals as frames: the places from i to j hold exactly the entries from a to b.
use Rattle.std.proofs.Common.{◌≡◌, ℕ, suc, ◌+◌, ◌-◌, ◌<◌, ◌≤◌, ◌↔◌, inl, inr, max, min, List, length, sym, ap, ◌∙◌, arith}
use Rattle.std.proofs.lemmas.Bool.{cases_lt, cases_eq}
use Rattle.av_perm.specs.Relations.{at, IsOneToLength, IsOccurrence, IsInterval, IsSimple}
use Rattle.av_perm.proofs.Patterns.{word_hits}
use Rattle.av_perm.proofs.Pigeons.{pigeons_by}
use Rattle.av_interval.proofs.Windows.{window_only}

-- each entry stands at one place
pub once_at : (σ : List ℕ) → IsOneToLength σ → (s t : ℕ) → s < length σ → t < length σ → at σ s ≡ at σ t → s ≡ t
once_at σ w s t h k e = elim (cases_lt s t) [
  | inl l ↦ absurd (w.apart s t l k e)
  | inr l ↦ elim (cases_eq t s) [ inl q ↦ sym q | inr n ↦ absurd (w.apart t s (omega (arith, n)) h (sym e)) ]
]

-- the places of an occurrence, counted by the pattern's length
pub placed_at : (σ τ p : List ℕ) → IsOccurrence σ τ p → (s : ℕ) → s < length τ → at p s < length σ
placed_at σ τ p o s h = o.placed s (omega (arith, o.count))

-- they rise
pub rising_at : (σ τ p : List ℕ) → IsOccurrence σ τ p → (s t : ℕ) → s < t → t < length τ → at p s < at p t
rising_at σ τ p o s t h k = o.rising s t h (omega (arith, o.count))

-- the places from i to j are those whose entries lie from some a to some b
abbrev pub IsFrame : List ℕ → ℕ → ℕ → Type 0
IsFrame σ i j = (a : ℕ) × (b : ℕ) × ((k : ℕ) → k < length σ → ((i ≤ k) × (k ≤ j)) ↔ ((a ≤ at σ k) × (at σ k ≤ b)))

-- an interval is a frame
pub interval_frame : (σ : List ℕ) → IsOneToLength σ → (i m : ℕ) → 1 ≤ m → IsInterval σ i m → IsFrame σ i (i + m - 1)
interval_frame σ w i m h v = (
  v.1.0,
  v.1.0 + m - 1,
  λ k kn. (
    λ l. let r = v.1.1 k l.0 (omega (arith, l.1)) in (r.0, omega (arith, r.1)),
    λ l. let r = window_only σ i m v.1.0 k w.apart v.0 v.1.1 kn l.0 (omega (arith, l.1)) in (r.0, omega (arith, r.1)),
  ),
)

-- and a frame is an interval: its places are as many as its entries
pub frame_interval : (σ : List ℕ) → IsOneToLength σ → (i j : ℕ) → i < j → j < length σ → IsFrame σ i j → IsInterval σ i (suc (j - i))
frame_interval σ w i j h k v = (
  omega arith,
  (
    max v.0 1,
    λ s l n.
        let r = (v.2 s (omega arith)).0 (l, omega arith) in
        let q = w.within s (omega arith) in
        (omega (arith, r.0), omega (arith, r.1, few)),
  ),
)
  where
    holes : (s : ℕ) → s < suc (min v.1 (length σ)) - max v.0 1 → (y : ℕ) × (y < suc (j - i)) × (at σ (i + y) ≡ max v.0 1 + s)
    holes s l =
        let p = word_hits σ (max v.0 1 + s) w (omega arith) (omega arith) in
        let q = (v.2 p.0 p.1).1 (omega (arith, p.2), omega (arith, p.2)) in
        let back : i + (p.0 - i) ≡ p.0 = omega (arith, q.0) in
        (p.0 - i, omega (arith, q.1), ap (at σ) back ∙ p.2)

    few : suc (min v.1 (length σ)) - max v.0 1 ≤ suc (j - i)
    few = pigeons_by (suc (j - i)) (suc (min v.1 (length σ)) - max v.0 1) (λ s y. at σ (i + y) ≡ max v.0 1 + s) holes (λ s t y a b. omega (arith, a, b))

-- the only frame of two places or more in a simple word is the whole
pub whole_frame : (σ : List ℕ) → IsSimple σ → (i j : ℕ) → i < j → j < length σ → IsFrame σ i j → (i ≡ 0) × (j + 1 ≡ length σ)
whole_frame σ p i j ij jn v = elim (cases_lt (suc (j - i)) (length σ)) [
  | inl l ↦ absurd (p.bare i (suc (j - i)) (omega arith) l (frame_interval σ p.numbers i j ij jn v))
  | inr l ↦ (omega arith, omega arith)
]

-- and a word of which this is true is simple
pub simple_by_frames : (σ : List ℕ) → IsOneToLength σ → 4 ≤ length σ → ((i j : ℕ) → i < j → j < length σ → IsFrame σ i j → (i ≡ 0) × (j + 1 ≡ length σ)) → IsSimple σ
simple_by_frames σ w h whole = record {
  numbers = w;
  long = h;
  bare = λ i m two short v. let r = whole i (i + m - 1) (omega arith) (omega (arith, v.0)) (interval_frame σ w i m (omega arith) v) in omega (arith, r.0, r.1);
}
