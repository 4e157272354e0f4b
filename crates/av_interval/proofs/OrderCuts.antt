-- A sequence with neither a 2413 nor a 3142 is cut into a lower and an upper part.
use Rattle.std.proofs.Common.{ℕ, zero, suc, ◌≡◌, ◌<◌, ◌≤◌, ◌⊎◌, inl, inr, sym, subst, arith}
use Rattle.std.proofs.lemmas.Bool.{cases_eq, cases_lt}

-- each of the first k places of n stands in the relation to each of the others
abbrev pub Up : (ℕ → ℕ → Type 0) → ℕ → ℕ → Type 0
Up R k n = (i j : ℕ) → i < k → k ≤ j → j < n → R i j

-- the relation turned round
abbrev pub Back : (ℕ → ℕ → Type 0) → ℕ → ℕ → Type 0
Back R i j = R j i

-- there is such a k, for the relation or for its turn
abbrev pub Cut : (ℕ → ℕ → Type 0) → ℕ → Type 0
Cut R n = (k : ℕ) × (1 ≤ k) × (k < n) × (Up R k n ⊎ Up (Back R) k n)

-- four places x < y < w < v with a 3142, where R is <: the entry at y is below that at v, v below x, and x below w
pub record FourPlaces (R : ℕ → ℕ → Type 0) (n : ℕ) : Type 0 where
  pub x : ℕ
  pub y : ℕ
  pub w : ℕ
  pub v : ℕ
  pub xy : x < y
  pub yw : y < w
  pub wv : w < v
  pub vn : v < n
  pub ryv : R y v
  pub rvx : R v x
  pub rxw : R x w

module _ (R : ℕ → ℕ → Type 0) (compared : (i j : ℕ) → (i ≡ j → ⊥) → R i j ⊎ R j i) (transitive : (i j k : ℕ) → R i j → R j k → R i k) where
  -- the first place below k that stands above v, if there is one
  first : (v k : ℕ) → k ≤ v → ((m : ℕ) × (m < k) × R v m × ((i : ℕ) → i < m → R i v)) ⊎ ((i : ℕ) → i < k → R i v)
  first v zero h = inr (λ i l. absurd (omega arith))
  first v (suc k) h = elim (first v k (omega arith)) [
    | inl s ↦ inl (s.0, omega (arith, s.1), s.2, s.3)
    | inr all ↦ elim (compared k v (omega arith)) [
      | inl r ↦ inr (λ i l. elim (cases_eq i k) [ inl e ↦ subst (λ a. R a v) (sym e) r | inr ne ↦ all i (omega arith) ])
      | inr r ↦ inl (k, omega arith, r, all)
    ]
  ]

  -- a place between m and k that stands below v, if there is one
  later : (v m k : ℕ) → k ≤ v → ((y : ℕ) × (m < y) × (y < k) × R y v) ⊎ ((y : ℕ) → m < y → y < k → R v y)
  later v m zero h = inr (λ y l k. absurd (omega arith))
  later v m (suc k) h = elim (later v m k (omega arith)) [
    | inl s ↦ inl (s.0, s.1, omega (arith, s.2), s.3)
    | inr all ↦ elim (compared k v (omega arith)) [
      | inl r ↦ elim (cases_lt m k) [
        | inl l ↦ inl (k, l, omega arith, r)
        | inr g ↦ inr (λ y a b. absurd (omega arith))
      ]
      | inr r ↦ inr (λ y a b. elim (cases_eq y k) [ inl e ↦ subst (λ t. R v t) (sym e) r | inr ne ↦ all y a (omega arith) ])
    ]
  ]

  -- one more place: the cut stays, or moves, or there are four places
  pub step : (k n : ℕ) → 1 ≤ k → k < n → Up R k n → Cut R (suc n) ⊎ FourPlaces R (suc n)
  step k n k1 kn up = elim (first n k (omega arith)) [
    | inr all ↦ inl (k, k1, omega arith, inl (λ i j a b d. elim (cases_eq j n) [ inl e ↦ subst (λ t. R i t) (sym e) (all i a) | inr ne ↦ up i j a b (omega arith) ]))
    | inl s ↦ elim (later n s.0 k (omega arith)) [
      | inl t ↦ inr (record {
        x = s.0;
        y = t.0;
        w = k;
        v = n;
        xy = t.1;
        yw = t.2;
        wv = kn;
        vn = omega arith;
        ryv = t.3;
        rvx = s.2;
        rxw = up s.0 k s.1 (omega arith) kn;
      })
      | inr above ↦ elim (cases_eq s.0 0) [
        | inl e ↦ inl (n, omega arith, omega arith, inr (λ i j a b d. subst (λ t. R t i) {x = n} {y = j} (omega arith) (under s.0 s.1 s.2 above e i a)))
        | inr ne ↦ inl (
          s.0,
          omega arith,
          omega (arith, s.1),
          inl (λ i j a b d. elim (cases_eq j n) [
            | inl e ↦ subst (λ t. R i t) (sym e) (s.3 i a)
            | inr nj ↦ over s.0 s.1 s.2 above s.3 i j a b (omega arith)
          ]),
        )
      ]
    ]
  ]
    where
      over_m : (m : ℕ) → R n m → ((y : ℕ) → m < y → y < k → R n y) → (j : ℕ) → m ≤ j → j < k → R n j
      over_m m r above j a b = elim (cases_eq m j) [ inl e ↦ subst (λ t. R n t) e r | inr ne ↦ above j (omega arith) b ]

      under : (m : ℕ) → m < k → R n m → ((y : ℕ) → m < y → y < k → R n y) → m ≡ 0 → (i : ℕ) → i < n → R n i
      under m mk r above e i a = elim (cases_lt i k) [
        | inl l ↦ over_m m r above i (omega arith) l
        | inr g ↦ transitive n m i r (up m i mk g a)
      ]

      over : (m : ℕ) → m < k → R n m → ((y : ℕ) → m < y → y < k → R n y) → ((i : ℕ) → i < m → R i n) → (i j : ℕ) → i < m → m ≤ j → j < n → R i j
      over m mk r above below i j a b d = elim (cases_lt j k) [
        | inl l ↦ transitive i n j (below i a) (over_m m r above j b l)
        | inr g ↦ up i j (omega arith) g d
      ]

-- four places of a sequence are some of a longer one
more_places : (R : ℕ → ℕ → Type 0) (n : ℕ) → FourPlaces R n → FourPlaces R (suc n)
more_places R n q = record { x = q.x; y = q.y; w = q.w; v = q.v; xy = q.xy; yw = q.yw; wv = q.wv; vn = omega (arith, q.vn); ryv = q.ryv; rvx = q.rvx; rxw = q.rxw }

-- each sequence of two or more is cut, or has a 3142 or a 2413
pub cut_or_four : (R : ℕ → ℕ → Type 0) → ((i j : ℕ) → (i ≡ j → ⊥) → R i j ⊎ R j i) → ((i j k : ℕ) → R i j → R j k → R i k)
    → (n : ℕ) → Cut R (suc (suc n)) ⊎ (FourPlaces R (suc (suc n)) ⊎ FourPlaces (Back R) (suc (suc n)))
cut_or_four R compared transitive zero = elim (compared 0 1 (omega arith)) [
  | inl r ↦ inl (1, omega arith, omega arith, inl (λ i j a b d. subst (λ t. R t j) {x = 0} {y = i} (omega arith) (subst (λ t. R 0 t) {x = 1} {y = j} (omega arith) r)))
  | inr r ↦ inl (1, omega arith, omega arith, inr (λ i j a b d. subst (λ t. R j t) {x = 0} {y = i} (omega arith) (subst (λ t. R t 0) {x = 1} {y = j} (omega arith) r)))
]
cut_or_four R compared transitive (suc n) = elim (cut_or_four R compared transitive n) [
  | inl c ↦ elim c.3 [
    | inl up ↦ elim (step R compared transitive c.0 (suc (suc n)) c.1 c.2 up) [ inl d ↦ inl d | inr q ↦ inr (inl q) ]
    | inr down ↦ elim (step (Back R) (λ i j ne. compared j i (λ e. ne (sym e))) (λ i j k a b. transitive k j i b a) c.0 (suc (suc n)) c.1 c.2 down) [
      | inl d ↦ inl (d.0, d.1, d.2, elim d.3 [ inl u ↦ inr u | inr u ↦ inl u ])
      | inr q ↦ inr (inr q)
    ]
  ]
  | inr q ↦ elim q [ inl a ↦ inr (inl (more_places R _ a)) | inr a ↦ inr (inr (more_places (Back R) _ a)) ]
]
