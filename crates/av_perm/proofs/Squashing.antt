-- Different numbers without a cut have a simple quotient: squash a proper block to one place, and so on until there is none.
use Rattle.std.proofs.Common.{◌≡◌, ℕ, zero, suc, ◌+◌, ◌-◌, ◌<◌, ◌≤◌, ◌≢◌, ◌⊎◌, inl, inr, ◌↔◌, cond, ltb, lt-ltb, min, sym, ap, ◌∙◌, subst, arith}
use Rattle.std.proofs.lemmas.Bool.{cases_lt, cases_order, le-ltb}
use Rattle.av_perm.proofs.BlockIntervals.{Apart, one_place, IsOutside, inside_or_outside, IsBlock, some_proper_block}
use Rattle.av_perm.proofs.Cuts.{IsCut}
use Rattle.av_perm.proofs.SimpleQuotients.{IsUncut, SimpleQuotient, own_quotient}

-- where place `s` goes when the d + 1 places from `a` on become the one place `a`
abbrev squash : ℕ → ℕ → ℕ → ℕ
squash a d s = s - min d (s - a)

-- the first place that goes to `i`
abbrev spread : ℕ → ℕ → ℕ → ℕ
spread a d i = cond (ltb a i) (i + d) i

-- the first place that goes to `i` is `i` up to `a`, and d later after it
spread_is : (a d i : ℕ) → ((i ≤ a) × (spread a d i ≡ i)) ⊎ ((a < i) × (spread a d i ≡ i + d))
spread_is a d i = elim (cases_lt a i) [
  | inl l ↦ inr (l, ap (λ b. cond b (i + d) i) (lt-ltb a i l))
  | inr l ↦ inl (l, ap (λ b. cond b (i + d) i) (le-ltb a i l))
]

-- the first place that goes to `i` goes to `i`
squash_spread : (a d i : ℕ) → squash a d (spread a d i) ≡ i
squash_spread a d i = let x = spread_is a d i in omega arith

-- a place in the block goes to `a`
squash_inside : (a d s : ℕ) → a ≤ s → s < a + suc d → squash a d s ≡ a
squash_inside a d s h k = omega arith

-- a place outside is the first that goes where it goes
spread_squash : (a d s : ℕ) → IsOutside a (suc d) s → spread a d (squash a d s) ≡ s
spread_squash a d s out = let x = spread_is a d (squash a d s) in omega arith

-- the first place that goes where a place in the block goes is `a`
spread_inside : (a d s : ℕ) → a ≤ s → s < a + suc d → spread a d (squash a d s) ≡ a
spread_inside a d s h k = let x = spread_is a d (squash a d s) in omega arith

-- the first places that go to two places are in the order of these
spread_rises : (a d i j : ℕ) → i < j → spread a d i < spread a d j
spread_rises a d i j h = let x = spread_is a d i in let y = spread_is a d j in omega arith

-- the first place that goes to one of n - d places is one of n places
spread_below : (a d n i : ℕ) → i < n - d → spread a d i < n
spread_below a d n i h = let x = spread_is a d i in omega arith

-- places before the first that goes to `c` go before `c`
squash_before : (a d c s : ℕ) → s < spread a d c → squash a d s < c
squash_before a d c s h = let x = spread_is a d c in omega arith

-- places from the first that goes to `c` on do not go before `c`
squash_after : (a d c t : ℕ) → spread a d c ≤ t → c ≤ squash a d t
squash_after a d c t h = let x = spread_is a d c in omega arith

-- the numbers that are left: in place of the block its first
abbrev squashed : (ℕ → ℕ) → ℕ → ℕ → ℕ → ℕ
squashed f a d i = f (spread a d i)

module _ (n : ℕ) (f : ℕ → ℕ) (a d : ℕ) (apart : Apart n f) (fits : a + suc d ≤ n) (block : IsBlock n f a (suc d)) where
  -- a number outside differs from one inside
  differs : (x t : ℕ) → a ≤ x → x < a + suc d → t < n → IsOutside a (suc d) t → f x ≢ f t
  differs x t h k ht out e = let q = one_place n f apart x t (omega arith) ht e in omega arith

  -- a number outside that is above one inside is above each
  above_all : (x y t : ℕ) → a ≤ x → x < a + suc d → a ≤ y → y < a + suc d → t < n → IsOutside a (suc d) t → f x < f t → f y < f t
  above_all x y t hx kx hy ky ht out l = elim (cases_order (f y) (f t)) [
    | inl q ↦ absurd (differs y t hy ky ht out q)
    | inr (inl q) ↦ q
    | inr (inr q) ↦ absurd (block x y t hx kx hy ky ht out l q)
  ]

  -- a number outside that is below one inside is below each
  below_all : (x y t : ℕ) → a ≤ x → x < a + suc d → a ≤ y → y < a + suc d → t < n → IsOutside a (suc d) t → f t < f x → f t < f y
  below_all x y t hx kx hy ky ht out l = elim (cases_order (f y) (f t)) [
    | inl q ↦ absurd (differs y t hy ky ht out q)
    | inr (inl q) ↦ absurd (block y x t hy ky hx kx ht out q l)
    | inr (inr q) ↦ q
  ]

  -- places that do not go to one lie as those that they go to
  squash_alike : (s t : ℕ) → s < n → t < n → squash a d s ≢ squash a d t
      → (f s < f t) ↔ (squashed f a d (squash a d s) < squashed f a d (squash a d t))
  squash_alike s t hs ht ne = elim (inside_or_outside a (suc d) s) [
    | inl i ↦ elim (inside_or_outside a (suc d) t) [
      | inl j ↦ absurd (ne (squash_inside a d s i.0 i.1 ∙ sym (squash_inside a d t j.0 j.1)))
      | inr j ↦
          let p = ap f (spread_inside a d s i.0 i.1) in
          let q = ap f (spread_squash a d t j) in (
            λ l. let k = above_all s a t i.0 i.1 (omega arith) (omega arith) ht j l in omega arith,
            λ l. above_all a s t (omega arith) (omega arith) i.0 i.1 ht j (omega arith),
          )
    ]
    | inr i ↦ elim (inside_or_outside a (suc d) t) [
      | inl j ↦
          let p = ap f (spread_squash a d s i) in
          let q = ap f (spread_inside a d t j.0 j.1) in (
            λ l. let k = below_all t a s j.0 j.1 (omega arith) (omega arith) hs i l in omega arith,
            λ l. below_all a t s (omega arith) (omega arith) j.0 j.1 hs i (omega arith),
          )
      | inr j ↦ let p = ap f (spread_squash a d s i) in let q = ap f (spread_squash a d t j) in (λ l. omega arith, λ l. omega arith)
    ]
  ]

  -- the numbers that are left differ
  squashed_apart : Apart (n - d) (squashed f a d)
  squashed_apart i j h k = apart (spread a d i) (spread a d j) (spread_rises a d i j h) (spread_below a d n j k)

  -- a cut of what is left makes a cut of the whole
  whole_cut : (R R' : ℕ → ℕ → Type 0) → ((s t : ℕ) → s < n → t < n → squash a d s ≢ squash a d t → R' (squash a d s) (squash a d t) → R s t)
      → (c : ℕ) → IsCut R' (n - d) c → IsCut R n (spread a d c)
  whole_cut R R' lift c k =
      let within = spread_below a d n c k.fits in
      record {
        some = let x = spread_is a d c in omega (arith, k.some);
        fits = within;
        lie = λ s t hs ht l.
            let p = squash_before a d c s hs in
            let q = squash_after a d c t ht in
            lift s t (omega arith) l (λ e. omega arith) (k.lie (squash a d s) (squash a d t) p q (omega arith));
      }

  -- so what is left has no cut if the whole has none
  squashed_uncut : IsUncut n f → IsUncut (n - d) (squashed f a d)
  squashed_uncut u = record {
    up = λ c k. u.up (spread a d c)
        (whole_cut (λ s t. f s < f t) (λ s t. squashed f a d s < squashed f a d t) (λ s t hs ht ne. (squash_alike s t hs ht ne).1) c k);
    down = λ c k. u.down (spread a d c)
        (whole_cut (λ s t. f t < f s) (λ s t. squashed f a d t < squashed f a d s) (λ s t hs ht ne. (squash_alike t s ht hs (λ e. ne (sym e))).1) c k);
  }

  -- a simple quotient of what is left is one of the whole
  whole_quotient : SimpleQuotient (n - d) (squashed f a d) → SimpleQuotient n f
  whole_quotient l = record {
    size = l.size;
    place = λ i. spread a d (l.place i);
    child = λ s. l.child (squash a d s);
    long = l.long;
    places = λ i h. spread_below a d n (l.place i) (l.places i h);
    back = λ i h. ap l.child (squash_spread a d (l.place i)) ∙ l.back i h;
    children = λ s h. l.children (squash a d s) (omega arith);
    rising = λ s t h k. elim (cases_lt (squash a d s) (squash a d t)) [
      | inl o ↦ l.rising (squash a d s) (squash a d t) o (omega arith)
      | inr o ↦ let e : squash a d s ≡ squash a d t = omega arith in let q = ap l.child e in omega arith
    ];
    across = λ s t hs ht ne.
        let x = squash_alike s t hs ht (λ e. ne (ap l.child e)) in
        let y = l.across (squash a d s) (squash a d t) (omega arith) (omega arith) ne in
        (λ z. y.0 (x.0 z), λ z. x.1 (y.1 z));
    bare = l.bare;
  }

-- at most `fuel` different numbers without a cut have a simple quotient
quotient_by : (fuel n : ℕ) (f : ℕ → ℕ) → n ≤ fuel → 2 ≤ n → Apart n f → IsUncut n f → SimpleQuotient n f
quotient_by zero n f h two apart u = absurd (omega arith)
quotient_by (suc fuel) n f h two apart u = elim (some_proper_block n f) [
  | inr none ↦ own_quotient n f two apart u none
  | inl r ↦
      let a : ℕ = r.0 in
      let m : ℕ = r.1 in
      let d : ℕ = m - 1 in
      let long : 2 ≤ m = r.2.two in
      let less : m < n = r.2.less in
      let room : a + m ≤ n = r.2.fits in
      let e : m ≡ suc d = omega arith in
      let fits : a + suc d ≤ n = omega arith in
      let block : IsBlock n f a (suc d) = subst (IsBlock n f a) e r.2.block in
      whole_quotient n f a d apart fits block
      (quotient_by fuel (n - d) (squashed f a d) (omega arith) (omega arith)
      (squashed_apart n f a d apart fits block) (squashed_uncut n f a d apart fits block u))
]

-- different numbers without a cut have a simple quotient
pub simple_quotient : (n : ℕ) (f : ℕ → ℕ) → 2 ≤ n → Apart n f → IsUncut n f → SimpleQuotient n f
simple_quotient n f two apart u = quotient_by n n f (omega arith) two apart u
