-- Consecutive places of a word are an interval just where they are a block: no entry outside lies between two inside.
use Rattle.std.proofs.Common.{◌≡◌, ℕ, suc, ◌+◌, ◌-◌, ◌<◌, ◌≤◌, ◌≢◌, ◌⊎◌, inl, inr, List, length, sym, ap, ◌∙◌, subst, arith}
use Rattle.std.proofs.lemmas.Bool.{cases_lt, cases_eq, cases_order}
use Rattle.av_perm.specs.Relations.{at, IsOneToLength, IsInterval}
use Rattle.av_perm.proofs.Pigeons.{hits, pigeons_by}
use Rattle.av_perm.proofs.Searches.{Decided, lt_decided, le_decided, both_decided, either_decided, some_decided, minimum}
use Rattle.av_perm.proofs.Patterns.{word_hits}

-- the numbers f 0, .., f (n - 1) differ
abbrev pub Apart : ℕ → (ℕ → ℕ) → Type 0
Apart n f = (s t : ℕ) → s < t → t < n → f s ≢ f t

-- places with one number are one
pub one_place : (n : ℕ) (f : ℕ → ℕ) → Apart n f → (s t : ℕ) → s < n → t < n → f s ≡ f t → s ≡ t
one_place n f apart s t hs ht e = elim (cases_order s t) [
  | inl q ↦ q
  | inr (inl l) ↦ absurd (apart s t l ht e)
  | inr (inr l) ↦ absurd (apart t s l hs (sym e))
]

-- place `u` is not one of the `m` from `a` on
abbrev pub IsOutside : ℕ → ℕ → ℕ → Type 0
IsOutside a m u = (u < a) ⊎ (a + m ≤ u)

-- each place is inside or outside
pub inside_or_outside : (a m u : ℕ) → ((a ≤ u) × (u < a + m)) ⊎ IsOutside a m u
inside_or_outside a m u = elim (cases_lt u a) [
  | inl l ↦ inr (inl l)
  | inr l ↦ elim (cases_lt u (a + m)) [ inl k ↦ inl (l, k) | inr k ↦ inr (inr k) ]
]

-- the `m` places from `a` on are a block of f 0, .., f (n - 1): no number outside lies between two inside
abbrev pub IsBlock : ℕ → (ℕ → ℕ) → ℕ → ℕ → Type 0
IsBlock n f a m =
    (s t u : ℕ) → a ≤ s → s < a + m → a ≤ t → t < a + m → u < n → IsOutside a m u → f s < f u → f u < f t → ⊥

-- a number between the entries of two places of a block is the entry of a place of it
between_inside : (σ : List ℕ) (a m : ℕ) → IsOneToLength σ → a + m ≤ length σ → IsBlock (length σ) (at σ) a m
    → (s t v : ℕ) → a ≤ s → s < a + m → a ≤ t → t < a + m → at σ s ≤ v → v ≤ at σ t → (u : ℕ) × (a ≤ u) × (u < a + m) × (at σ u ≡ v)
between_inside σ a m w l b s t v hs ks ht kt lo hi = elim (cases_eq (at σ s) v) [
  | inl e ↦ (s, hs, ks, e)
  | inr ne ↦ elim (cases_eq (at σ t) v) [
    | inl e ↦ (t, ht, kt, e)
    | inr ne' ↦
        let low = w.within s (omega arith) in
        let high = w.within t (omega arith) in
        let u = word_hits σ v w (omega arith) (omega arith) in
        elim (inside_or_outside a m u.0) [
          | inl i ↦ (u.0, i.0, i.1, u.2)
          | inr out ↦ absurd (b s t u.0 hs ks ht kt u.1 out (omega (arith, u.2, ne)) (omega (arith, u.2, ne')))
        ]
  ]
]

-- a block is an interval: above its least entry it has no entry that is m or more greater, since the numbers between would be too many
pub block_interval : (σ : List ℕ) (a m : ℕ) → IsOneToLength σ → 1 ≤ m → a + m ≤ length σ → IsBlock (length σ) (at σ) a m → IsInterval σ a m
block_interval σ a m w h l b = (l, (v, λ s k o. (least_at s k o, below s k o)))
  where
    lowest : (r : ℕ) × (r < m) × ((s : ℕ) → s < m → at σ (a + r) ≤ at σ (a + s))
    lowest = minimum m (λ s. at σ (a + s)) h

    v : ℕ
    v = at σ (a + lowest.0)

    least_at : (s : ℕ) → a ≤ s → s < a + m → v ≤ at σ s
    least_at s k o = let e : a + (s - a) ≡ s = omega arith in subst (λ i. v ≤ at σ i) e (lowest.2 (s - a) (omega arith))

    -- the place in the block of the number that is `j` above the least
    place : (s : ℕ) → a ≤ s → s < a + m → v + m ≤ at σ s → (j : ℕ) → j ≤ m → (y : ℕ) × (y < m) × (at σ (a + y) ≡ v + j)
    place s k o q j hj =
        let u = between_inside σ a m w l b (a + lowest.0) s (v + j) (omega arith) (omega (arith, lowest.1)) k o (omega arith) (omega arith) in
        let e : a + (u.0 - a) ≡ u.0 = omega (arith, u.1) in
        (u.0 - a, omega (arith, u.1, u.2), ap (at σ) e ∙ u.3)

    below : (s : ℕ) → a ≤ s → s < a + m → at σ s < v + m
    below s k o = elim (cases_lt (at σ s) (v + m)) [
      | inl q ↦ q
      | inr q ↦
          let r = pigeons_by m (suc m) (λ j y. at σ (a + y) ≡ v + j) (λ j hj. place s k o q j (omega arith)) (λ i j y x z. omega arith) in
          absurd (omega arith)
    ]

-- an interval is a block: its m entries are all of m consecutive numbers, so what lies between two of them is one of them
pub interval_block : (σ : List ℕ) (a m : ℕ) → IsOneToLength σ → IsInterval σ a m → IsBlock (length σ) (at σ) a m
interval_block σ a m w i s t u hs ks ht kt hu out lo hi =
    let r = hits m (λ j. at σ (a + j) - v) (at σ u - v) in_window distinct (let x = i.1.1 s hs ks in let y = i.1.1 t ht kt in omega arith) in
    let x = i.1.1 s hs ks in
    let z = i.1.1 (a + r.0) (omega arith) (omega (arith, r.1)) in
    let e : a + r.0 ≡ u = one_place (length σ) (at σ) w.apart (a + r.0) u (omega (arith, r.1, i.0)) hu (omega (arith, r.2)) in
    elim out [ inl o ↦ omega arith | inr o ↦ omega (arith, r.1) ]
  where
    v : ℕ
    v = i.1.0

    in_window : (j : ℕ) → j < m → at σ (a + j) - v < m
    in_window j h = let z = i.1.1 (a + j) (omega arith) (omega arith) in omega arith

    distinct : (j k : ℕ) → j < k → k < m → at σ (a + j) - v ≢ at σ (a + k) - v
    distinct j k h l e =
        let z = i.1.1 (a + j) (omega arith) (omega arith) in
        let z' = i.1.1 (a + k) (omega arith) (omega arith) in
        w.apart (a + j) (a + k) (omega arith) (omega (arith, i.0)) (omega arith)

-- the number at `u`, outside, lies between those at `s` and `t`, inside
abbrev Separates : (ℕ → ℕ) → ℕ → ℕ → ℕ → ℕ → ℕ → Type 0
Separates f a m s t u = ((a ≤ s) × (s < a + m)) × (((a ≤ t) × (t < a + m)) × (IsOutside a m u × ((f s < f u) × (f u < f t))))

-- separating is decided
separates_decided : (f : ℕ → ℕ) (a m s t u : ℕ) → Decided (Separates f a m s t u)
separates_decided f a m s t u =
    both_decided (both_decided (le_decided a s) (lt_decided s (a + m)))
    (both_decided (both_decided (le_decided a t) (lt_decided t (a + m)))
    (both_decided (either_decided (lt_decided u a) (le_decided (a + m) u)) (both_decided (lt_decided (f s) (f u)) (lt_decided (f u) (f t)))))

-- being a block is decided
block_decided : (n : ℕ) (f : ℕ → ℕ) (a m : ℕ) → a + m ≤ n → Decided (IsBlock n f a m)
block_decided n f a m h =
    elim (some_decided n (λ s. (t : ℕ) × (t < n) × ((u : ℕ) × (u < n) × Separates f a m s t u))
    (λ s. some_decided n (λ t. (u : ℕ) × (u < n) × Separates f a m s t u)
    (λ t. some_decided n (λ u. Separates f a m s t u) (λ u. separates_decided f a m s t u)))) [
      | inl r ↦
          let x = r.2.2.2 in
          inr (λ b. b r.0 r.2.0 r.2.2.0 x.0.0 x.0.1 x.1.0.0 x.1.0.1 r.2.2.1 x.1.1.0 x.1.1.1.0 x.1.1.1.1)
      | inr q ↦ inl (λ s t u hs ks ht kt hu out lo hi.
          q (s, omega arith, (t, omega arith, (u, hu, ((hs, ks), ((ht, kt), (out, (lo, hi))))))))
    ]

-- a block that is neither one place nor all
pub record IsProperBlock (n : ℕ) (f : ℕ → ℕ) (a m : ℕ) : Type 0 where
  pub two : 2 ≤ m
  pub less : m < n
  pub fits : a + m ≤ n
  pub block : IsBlock n f a m

-- being a proper block is decided
proper_decided : (n : ℕ) (f : ℕ → ℕ) (a m : ℕ) → Decided (IsProperBlock n f a m)
proper_decided n f a m = elim (both_decided (le_decided 2 m) (both_decided (lt_decided m n) (le_decided (a + m) n))) [
  | inr x ↦ inr (λ p. x (p.two, (p.less, p.fits)))
  | inl x ↦ elim (block_decided n f a m x.1.1) [
    | inl b ↦ inl (record { two = x.0; less = x.1.0; fits = x.1.1; block = b })
    | inr b ↦ inr (λ p. b p.block)
  ]
]

-- there is a proper block, or there is none
pub some_proper_block : (n : ℕ) (f : ℕ → ℕ) → ((a : ℕ) × (m : ℕ) × IsProperBlock n f a m) ⊎ ((a m : ℕ) → IsProperBlock n f a m → ⊥)
some_proper_block n f =
    elim (some_decided n (λ a. (m : ℕ) × (m < n) × IsProperBlock n f a m) (λ a. some_decided n (λ m. IsProperBlock n f a m) (proper_decided n f a))) [
      | inl r ↦ inl (r.0, r.2.0, r.2.2)
      | inr none ↦ inr (λ a m p. let two = p.two in let fits = p.fits in none (a, omega arith, (m, p.less, p)))
    ]
