-- The least and the greatest entry of consecutive places, and intervals.
use Rattle.std.proofs.Common.{◌≡◌, ℕ, ◌+◌, ◌-◌, ◌<◌, ◌≤◌, inl, inr, List, length, min, max, ap, refl, arith}
use Rattle.std.proofs.lemmas.Bool.{cases_eq, cases_lt}
use Rattle.av_perm.specs.Relations.{at, IsInterval}

-- `lo` is the least entry at the places from `i` to `j - 1`, and `hi` the greatest
pub record IsSpread (σ : List ℕ) (i j lo hi : ℕ) : Type 0 where
  pub within : (s : ℕ) → i ≤ s → s < j → (lo ≤ at σ s) × (at σ s ≤ hi)
  pub least : (s : ℕ) × (i ≤ s) × (s < j) × (at σ s ≡ lo)
  pub greatest : (s : ℕ) × (i ≤ s) × (s < j) × (at σ s ≡ hi)

pub spread_one : (σ : List ℕ) (i j : ℕ) → j ≡ i + 1 → IsSpread σ i j (at σ i) (at σ i)
spread_one σ i j e = record {
  within = λ s h l. let q : s ≡ i = omega arith in (omega (arith, ap (at σ) q), omega (arith, ap (at σ) q));
  least = (i, omega arith, omega arith, refl);
  greatest = (i, omega arith, omega arith, refl);
}

pub spread_more : (σ : List ℕ) (i j lo hi lo' hi' : ℕ) → i ≤ j → IsSpread σ i j lo hi → lo' ≡ min lo (at σ j) → hi' ≡ max hi (at σ j) → IsSpread σ i (j + 1) lo' hi'
spread_more σ i j lo hi lo' hi' ij s e f = record {
  within = λ t h l. elim (cases_eq t j) [
    | inl q ↦ (omega (arith, ap (at σ) q), omega (arith, ap (at σ) q))
    | inr ne ↦ let r = s.within t h (omega arith) in (omega (arith, r.0), omega (arith, r.1))
  ];
  least = elim (cases_lt (at σ j) lo) [
    | inl h ↦ (j, ij, omega arith, omega arith)
    | inr h ↦ let r = s.least in (r.0, r.1, omega (arith, r.2), omega (arith, r.3))
  ];
  greatest = elim (cases_lt hi (at σ j)) [
    | inl h ↦ (j, ij, omega arith, omega arith)
    | inr h ↦ let r = s.greatest in (r.0, r.1, omega (arith, r.2), omega (arith, r.3))
  ];
}

-- the places are an interval exactly where the greatest entry is less than their number above the least
pub spread_interval : (σ : List ℕ) (i j m lo hi : ℕ) → j ≡ i + m → j ≤ length σ → IsSpread σ i j lo hi → hi - lo < m → IsInterval σ i m
spread_interval σ i j m lo hi e fits s h = (omega arith, (lo, λ t it tj. let r = s.within t it (omega arith) in (r.0, omega (arith, r.0, r.1))))

pub interval_spread : (σ : List ℕ) (i j m lo hi : ℕ) → j ≡ i + m → IsInterval σ i m → IsSpread σ i j lo hi → hi - lo < m
interval_spread σ i j m lo hi e v s =
    let l = s.least in
    let g = s.greatest in
    let a = v.1.1 l.0 l.1 (omega (arith, l.2)) in
    let b = v.1.1 g.0 g.1 (omega (arith, g.2)) in
    omega (arith, l.3, g.3, a.0, b.1)
