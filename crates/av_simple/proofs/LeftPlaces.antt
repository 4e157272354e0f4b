-- Which places are left without one of them, and without two.
use Rattle.std.proofs.Common.{ℕ, zero, suc, ◌≡◌, ◌<◌, ◌≤◌, ◌+◌, ◌⊎◌, [], ◌∷◌, length, Bool, true, false, cond, ltb, inl, inr, refl, sym, subst, ap, ◌∙◌, arith}
use Rattle.std.proofs.lemmas.Bool.{cases_eq, cases_lt, cond-true, cond-false, lt-ltb, le-ltb, both_ways}
use Rattle.std.proofs.lemmas.List.{get_or_append_left, get_or_push, length_push}
use Rattle.av_perm.specs.Relations.{at}
use Rattle.av_interval.specs.Points.{chosen, but, but_two}
use Rattle.av_interval.proofs.PointCounts.{count, one}
use Rattle.av_interval.proofs.ChosenPlaces.{step, chosen_length}
use Rattle.av_interval.proofs.LeftPoints.{but_self, but_other, but_two_yes, but_two_not}
use Rattle.av_interval.proofs.SmallerSimples.{length_but}

-- the place in a word of place s of what is left without place v
abbrev pub skip : ℕ → ℕ → ℕ
skip v s = cond (ltb s v) s (s + 1)

-- before v it is the same, and else one more
pub skips : (v s : ℕ) → ((s < v) × (skip v s ≡ s)) ⊎ ((v ≤ s) × (skip v s ≡ s + 1))
skips v s = elim (cases_lt s v) [
  | inl l ↦ inl (l, cond-true (ltb s v) s (s + 1) (lt-ltb s v l))
  | inr g ↦ inr (g, cond-false (ltb s v) s (s + 1) (le-ltb s v g))
]

-- how many places below n are left without v
pub but_length : (v n : ℕ) → (n ≤ v → length (chosen (but v) n) ≡ n) × (v < n → suc (length (chosen (but v) n)) ≡ n)
but_length v n = ((λ h. chosen_length (but v) n ∙ under n h), (λ h. ap suc (chosen_length (but v) n) ∙ length_but v n h))
  where
    under : (n : ℕ) → n ≤ v → count (but v) n ≡ n
    under zero h = refl
    under (suc n) h = omega (arith, ap one (but_other v n (λ e. absurd (omega (arith, e, h)))), under n (omega arith))

-- and which
pub but_place : (v n s : ℕ) → s < length (chosen (but v) n) → at (chosen (but v) n) s ≡ skip v s
but_place v zero s h = absurd (omega arith)
but_place v (suc n) s h = go v n s (but v n) refl (but_place v n s) h
  where
    go : (v n s : ℕ) (b : Bool) → but v n ≡ b → (s < length (chosen (but v) n) → at (chosen (but v) n) s ≡ skip v s) → s < length (step (but v) n b) → at (step (but v) n b) s ≡ skip v s
    go v n s false e ih h = ih h
    go v n s true e ih h = elim (cases_lt s (length (chosen (but v) n))) [
      | inl l ↦ get_or_append_left (chosen (but v) n) (n ∷ []) 0 s l ∙ ih l
      | inr g ↦
          let q : length (chosen (but v) n) ≡ s = omega (arith, g, h, length_push (chosen (but v) n) n) in
          get_or_push (chosen (but v) n) n 0 s q ∙ last q
    ]
      where
        other : n ≡ v → ⊥
        other k = both_ways (but v n) (subst (λ t. but v t ≡ false) (sym k) (but_self v)) e

        last : length (chosen (but v) n) ≡ s → n ≡ skip v s
        last q = elim (cases_lt n v) [
          | inl l ↦ omega (arith, skips v s, (but_length v n).0 (omega arith), q)
          | inr g' ↦ let ne : n ≡ v → ⊥ = other in omega (arith, skips v s, (but_length v n).1 (omega arith), q)
        ]

-- how many places below n are left without v and u
pub two_count : (v u n : ℕ) → v < u → (n ≤ v → count (but_two v u) n ≡ n) × ((v < n → n ≤ u → suc (count (but_two v u) n) ≡ n) × (u < n → suc (suc (count (but_two v u) n)) ≡ n))
two_count v u zero h = ((λ l. refl), ((λ l k. absurd (omega arith)), (λ l. absurd (omega arith))))
two_count v u (suc n) h = elim (cases_eq n v) [
  | inl e ↦ (
    (λ l. absurd (omega (arith, e))),
    ((λ l k. omega (arith, ap one (but_two_not v u n (inl e)), (two_count v u n h).0 (omega (arith, e)))), (λ l. absurd (omega (arith, e, h)))),
  )
  | inr ne ↦ elim (cases_eq n u) [
    | inl e ↦ (
      (λ l. absurd (omega (arith, e, h))),
      ((λ l k. absurd (omega (arith, e))), (λ l. omega (arith, ap one (but_two_not v u n (inr e)), (two_count v u n h).1.0 (omega (arith, e)) (omega (arith, e))))),
    )
    | inr ne' ↦ (
      (λ l. omega (arith, ap one (but_two_yes v u n ne ne'), (two_count v u n h).0 (omega (arith, l)))),
      (
        (λ l k. omega (arith, ap one (but_two_yes v u n ne ne'), (two_count v u n h).1.0 (omega (arith, l, ne)) (omega (arith, k)))),
        (λ l. omega (arith, ap one (but_two_yes v u n ne ne'), (two_count v u n h).1.1 (omega (arith, l, ne')))),
      ),
    )
  ]
]

-- and which
pub two_place : (v u n s : ℕ) → v < u → s < length (chosen (but_two v u) n) → at (chosen (but_two v u) n) s ≡ skip u (skip v s)
two_place v u zero s vu h = absurd (omega arith)
two_place v u (suc n) s vu h = go v u n s vu (but_two v u n) refl (two_place v u n s vu) h
  where
    go : (v u n s : ℕ) → v < u → (b : Bool) → but_two v u n ≡ b → (s < length (chosen (but_two v u) n) → at (chosen (but_two v u) n) s ≡ skip u (skip v s))
        → s < length (step (but_two v u) n b) → at (step (but_two v u) n b) s ≡ skip u (skip v s)
    go v u n s vu false e ih h = ih h
    go v u n s vu true e ih h = elim (cases_lt s (length (chosen (but_two v u) n))) [
      | inl l ↦ get_or_append_left (chosen (but_two v u) n) (n ∷ []) 0 s l ∙ ih l
      | inr g ↦
          let q : length (chosen (but_two v u) n) ≡ s = omega (arith, g, h, length_push (chosen (but_two v u) n) n) in
          get_or_push (chosen (but_two v u) n) n 0 s q ∙ last (sym (chosen_length (but_two v u) n) ∙ q)
    ]
      where
        not_v : n ≡ v → ⊥
        not_v k = both_ways (but_two v u n) (but_two_not v u n (inl k)) e

        not_u : n ≡ u → ⊥
        not_u k = both_ways (but_two v u n) (but_two_not v u n (inr k)) e

        last : count (but_two v u) n ≡ s → n ≡ skip u (skip v s)
        last q = elim (cases_lt n v) [
          | inl l ↦ omega (arith, skips v s, skips u (skip v s), (two_count v u n vu).0 (omega (arith, l)), q, l, vu)
          | inr g ↦ let ne : n ≡ v → ⊥ = not_v in elim (cases_lt n u) [
            | inl l ↦ omega (arith, skips v s, skips u (skip v s), (two_count v u n vu).1.0 (omega (arith, g, ne)) (omega (arith, l)), q, l, g, ne)
            | inr g' ↦ let ne' : n ≡ u → ⊥ = not_u in omega (arith, skips v s, skips u (skip v s), (two_count v u n vu).1.1 (omega (arith, g', ne')), q, vu, g', ne')
          ]
        ]
