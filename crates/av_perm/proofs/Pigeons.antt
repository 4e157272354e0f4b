-- As many different numbers below n as n are all of them.
use Rattle.std.proofs.Common.{◌≡◌, ℕ, zero, suc, ◌-◌, ◌<◌, ◌≤◌, ◌≢◌, ◌⊎◌, inl, inr, cond, ltb, lt-ltb, ap, subst, arith}
use Rattle.std.proofs.lemmas.Bool.{cases_lt, cases_eq, le-ltb}

-- either some number below `n` has it, or none
pub search_below : (n : ℕ) (P : ℕ → Type 0) → ((i : ℕ) → i < n → P i ⊎ (P i → ⊥)) → ((i : ℕ) × (i < n) × P i) ⊎ ((i : ℕ) → i < n → P i → ⊥)
search_below zero P d = inr (λ i h p. omega arith)
search_below (suc n) P d = elim (search_below n P (λ i h. d i (omega arith))) [
  | inl f ↦ inl (f.0, omega (arith, f.1), f.2)
  | inr f ↦ elim (d n (omega arith)) [
    | inl p ↦ inl (n, omega arith, p)
    | inr q ↦ inr (λ i h p. elim (cases_eq i n) [ inl e ↦ q (subst P e p) | inr e ↦ f i (elim (cases_lt i n) [ inl l ↦ l | inr l ↦ absurd (e (omega arith)) ]) p ])
  ]
]

-- numbers other than `x`, with the gap at `x` closed
abbrev down : ℕ → ℕ → ℕ
down x v = cond (ltb x v) (v - 1) v

-- a number above the gap
down_over : (x v : ℕ) → x < v → down x v ≡ v - 1
down_over x v h = ap (λ b. cond b (v - 1) v) (lt-ltb x v h)

-- a number below the gap
down_under : (x v : ℕ) → v ≤ x → down x v ≡ v
down_under x v h = ap (λ b. cond b (v - 1) v) (le-ltb x v h)

-- with the gap closed the numbers are below one less
down_below : (x v k : ℕ) → v ≢ x → x < suc k → v < suc k → down x v < k
down_below x v k n h l = elim (cases_lt x v) [
  | inl m ↦ omega (arith, down_over x v m)
  | inr m ↦ omega (arith, down_under x v m, n)
]

-- with the gap closed different numbers differ
down_apart : (x v w : ℕ) → v ≢ x → w ≢ x → v ≢ w → down x v ≢ down x w
down_apart x v w n n' a e = elim (cases_lt x v) [
  | inl m ↦ elim (cases_lt x w) [ inl l ↦ omega (arith, down_over x v m, down_over x w l, a) | inr l ↦ omega (arith, down_over x v m, down_under x w l, n') ]
  | inr m ↦ elim (cases_lt x w) [ inl l ↦ omega (arith, down_under x v m, down_over x w l, n) | inr l ↦ omega (arith, down_under x v m, down_under x w l, a) ]
]

-- different numbers below k are at most k
pub pigeons : (k m : ℕ) (f : ℕ → ℕ) → ((s : ℕ) → s < m → f s < k) → ((s t : ℕ) → s < t → t < m → f s ≢ f t) → m ≤ k
pigeons k zero f h a = omega arith
pigeons zero (suc m) f h a = absurd (omega (arith, h 0 (omega arith)))
pigeons (suc k) (suc m) f h a =
    let r = pigeons k m (λ s. down (f m) (f s))
    (λ s l. down_below (f m) (f s) k (a s m l (omega arith)) (h m (omega arith)) (h s (omega arith)))
    (λ s t l o. down_apart (f m) (f s) (f t) (a s m (omega arith) (omega arith)) (a t m o (omega arith)) (a s t l (omega arith))) in
    omega arith

-- m different numbers below m are all of them
pub hits : (m : ℕ) (f : ℕ → ℕ) (v : ℕ) → ((s : ℕ) → s < m → f s < m) → ((s t : ℕ) → s < t → t < m → f s ≢ f t) → v < m → (s : ℕ) × (s < m) × (f s ≡ v)
hits zero f v h a l = absurd (omega arith)
hits (suc m) f v h a l = elim (search_below (suc m) (λ s. f s ≡ v) (λ s k. cases_eq (f s) v)) [
  | inl r ↦ r
  | inr n ↦
      let r = pigeons m (suc m) (λ s. down v (f s)) (λ s k. down_below v (f s) m (n s k) l (h s k)) (λ s t k o. down_apart v (f s) (f t) (n s (omega arith)) (n t o) (a s t k o)) in
      absurd (omega arith)
]

-- pigeons, where each hole is only known to be there
module _ (m k : ℕ) (R : ℕ → ℕ → Type 0) (g : (s : ℕ) → s < m → (y : ℕ) × (y < k) × R s y) where
  -- the hole of a pigeon, and 0 for what is none
  abbrev pick : (s : ℕ) → (s < m) ⊎ (m ≤ s) → ℕ
  pick s (inl l) = (g s l).0
  pick s (inr l) = 0

  -- the hole of a pigeon is one of its holes
  pick_is : (s : ℕ) (c : (s < m) ⊎ (m ≤ s)) → s < m → (pick s c < k) × R s (pick s c)
  pick_is s (inl l) h = ((g s l).1, (g s l).2)
  pick_is s (inr l) h = absurd (omega arith)

-- at most as many pigeons as holes, where no two share one
pub pigeons_by : (k m : ℕ) (R : ℕ → ℕ → Type 0) → ((s : ℕ) → s < m → (y : ℕ) × (y < k) × R s y) → ((s t y : ℕ) → R s y → R t y → s ≡ t) → m ≤ k
pigeons_by k m R g one =
    pigeons k m (λ s. pick m k R g s (cases_lt s m))
    (λ s h. (pick_is m k R g s (cases_lt s m) h).0)
    (λ s t h l e. let a = (pick_is m k R g s (cases_lt s m) (omega arith)).1 in let b = (pick_is m k R g t (cases_lt t m) l).1 in let q : s ≡ t = one s t (pick m k R g t (cases_lt t m)) (subst (R s) e a) b in omega arith)
