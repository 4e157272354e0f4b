-- A weakly increasing map of places onto children is determined by which places it puts together.
use Rattle.std.proofs.Common.{◌≡◌, ℕ, zero, suc, ◌+◌, ◌-◌, ◌<◌, ◌≤◌, inl, inr, ◌↔◌, List, length, sym, ap, ◌∙◌, arith}
use Rattle.std.proofs.lemmas.Bool.{cases_lt, cases_eq, cases_order}
use Rattle.std.proofs.lemmas.List.{ext_get_or}
use Rattle.av_perm.specs.Relations.{at}
use Rattle.av_perm.proofs.Searches.{least, greatest}
use Rattle.av_perm.proofs.InflatedPatterns.{Sends}
use Rattle.av_perm.proofs.BlockMaps.{Onto}

-- `e` sends places onto the children 0 to k - 1, weakly increasing
pub record RisesOnto (k : ℕ) (e : List ℕ) : Type 0 where
  pub children : (s : ℕ) → s < length e → at e s < k
  pub rising : (s t : ℕ) → s < t → t < length e → at e s ≤ at e t
  pub onto : Onto k e

-- a map of the places of a word onto those of a root is one
pub rises_onto : {π σ e : List ℕ} → Sends π σ e → Onto (length π) e → RisesOnto (length π) e
rises_onto g o = record { children = g.children; rising = g.rising; onto = o }

-- a place goes to no later child than a place after it
pub later_child : {k : ℕ} {e : List ℕ} → RisesOnto k e → (s t : ℕ) → s ≤ t → t < length e → at e s ≤ at e t
later_child {e = e} m s t h l = elim (cases_lt s t) [
  | inl o ↦ m.rising s t o l
  | inr o ↦ let q : s ≡ t = omega arith in let g = ap (at e) q in omega arith
]

-- a place between two of one child goes to that child too
pub same_between : {k : ℕ} {e : List ℕ} → RisesOnto k e → (s i t : ℕ) → s ≤ i → i ≤ t → t < length e → at e s ≡ at e t → at e i ≡ at e s
same_between m s i t h l b q =
    let x = later_child m s i h (omega arith) in
    let y = later_child m i t l b in
    omega arith

-- a child between those of two places is that of a place between them
pub child_between : {k : ℕ} {e : List ℕ} → RisesOnto k e → (s t i : ℕ) → s ≤ t → t < length e → at e s ≤ i → i ≤ at e t
    → (u : ℕ) × (s ≤ u) × (u ≤ t) × (at e u ≡ i)
child_between m s t i h l lo hi =
    let top = m.children t l in
    let u = m.onto i (omega arith) in
    elim (cases_lt u.0 s) [
      | inl x ↦ let y = later_child m u.0 s (omega arith) (omega arith) in (s, omega arith, h, omega (arith, u.2))
      | inr x ↦ elim (cases_lt t u.0) [
        | inl y ↦ let z = later_child m t u.0 (omega arith) u.1 in (t, h, omega arith, omega (arith, u.2))
        | inr y ↦ (u.0, x, y, u.2)
      ]
    ]

-- the places of child `i` are the `m` from `a` on
pub record IsRun (e : List ℕ) (i a m : ℕ) : Type 0 where
  pub some : 1 ≤ m
  pub fits : a + m ≤ length e
  pub inside : (s : ℕ) → a ≤ s → s < a + m → at e s ≡ i
  pub only : (s : ℕ) → s < length e → at e s ≡ i → (a ≤ s) × (s < a + m)

-- the places of a child are consecutive
pub run_of : {k : ℕ} {e : List ℕ} → RisesOnto k e → (i : ℕ) → i < k → (a : ℕ) × (m : ℕ) × IsRun e i a m
run_of {e = e} m i h =
    let s = m.onto i h in
    let first = least (length e) (λ j. at e j ≡ i) (λ j l. cases_eq (at e j) i) s.0 s.1 s.2 in
    let last = greatest (length e) (λ j. at e j ≡ i) (λ j l. cases_eq (at e j) i) s.0 s.1 s.2 in
    let a : ℕ = first.0 in
    let z : ℕ = last.0 in
    let from : (t : ℕ) → at e t ≡ i → a ≤ t = λ t q. elim (cases_lt t a) [ inl l ↦ absurd (first.3 t l q) | inr l ↦ l ] in
    let up : (t : ℕ) → t < length e → at e t ≡ i → t ≤ z = λ t l q. elim (cases_lt z t) [ inl o ↦ absurd (last.3 t o l q) | inr o ↦ o ] in
    let a_le_z : a ≤ z = from z last.2 in (
      a,
      z - a + 1,
      record {
        some = omega arith;
        fits = omega (arith, last.1);
        inside = λ t l o. same_between m a t z l (omega arith) last.1 (first.2 ∙ sym last.2) ∙ first.2;
        only = λ t l q. let x = from t q in let y = up t l q in (x, omega arith);
      },
    )

-- the first place goes to the first child
pub first_child : {k : ℕ} {e : List ℕ} → RisesOnto k e → 0 < k → at e 0 ≡ 0
first_child m h = let s = m.onto 0 h in let x = later_child m 0 s.0 (omega arith) s.1 in omega (arith, s.2)

-- the place after goes to the same child or to the next
next_child : {k : ℕ} {e : List ℕ} → RisesOnto k e → (s : ℕ) → suc s < length e → at e (suc s) ≤ suc (at e s)
next_child {e = e} m s h = elim (cases_lt (suc (at e s)) (at e (suc s))) [
  | inr l ↦ l
  | inl l ↦
      let top = m.children (suc s) h in
      let t = m.onto (suc (at e s)) (omega arith) in
      elim (cases_lt s t.0) [
        | inl x ↦ let y = later_child m (suc s) t.0 x t.1 in absurd (omega (arith, t.2))
        | inr x ↦ let y = later_child m t.0 s x (omega arith) in absurd (omega (arith, t.2))
      ]
]

-- two maps of as many places put the same places together
pub record PutAlike (e e' : List ℕ) : Type 0 where
  pub count : length e ≡ length e'
  pub alike : (s t : ℕ) → s < length e → t < length e → (at e s ≡ at e t) ↔ (at e' s ≡ at e' t)

-- a place goes to the same child by two maps that put the same places together
same_children : {k k' : ℕ} {e e' : List ℕ} → RisesOnto k e → RisesOnto k' e' → PutAlike e e' → (s : ℕ) → s < length e → at e s ≡ at e' s
same_children m m' p zero h =
    let top = m.children 0 h in
    let top' = m'.children 0 (omega (arith, p.count)) in
    let a = first_child m (omega arith) in
    let b = first_child m' (omega arith) in
    omega arith
same_children {e = e} {e' = e'} m m' p (suc s) h =
    let n = p.count in
    let before = same_children m m' p s (omega arith) in
    let a = next_child m s h in
    let b = next_child m' s (omega arith) in
    let x = m.rising s (suc s) (omega arith) h in
    let y = m'.rising s (suc s) (omega arith) (omega arith) in
    let i = p.alike s (suc s) (omega arith) h in
    elim (cases_eq (at e s) (at e (suc s))) [
      | inl q ↦ let r = i.0 q in omega arith
      | inr q ↦ elim (cases_eq (at e' s) (at e' (suc s))) [ inl r ↦ absurd (q (i.1 r)) | inr r ↦ omega arith ]
    ]

-- two maps that put the same places together are equal
pub same_maps : {k k' : ℕ} {e e' : List ℕ} → RisesOnto k e → RisesOnto k' e' → PutAlike e e' → e ≡ e'
same_maps {e = e} {e' = e'} m m' p = ext_get_or 0 e e' p.count (same_children m m' p)

-- a map goes onto one number of children
pub same_count : {k k' : ℕ} {e : List ℕ} → RisesOnto k e → RisesOnto k' e → k ≡ k'
same_count {k = k} {k' = k'} m m' = elim (cases_order k k') [
  | inl q ↦ q
  | inr (inl l) ↦ let s = m'.onto k l in let x = m.children s.0 s.1 in absurd (omega (arith, s.2))
  | inr (inr l) ↦ let s = m.onto k' l in let x = m'.children s.0 s.1 in absurd (omega (arith, s.2))
]
