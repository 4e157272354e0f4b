-- Counting the points of a set, and adding two points at a time.
use Rattle.std.proofs.Common.{ℕ, zero, suc, ◌≡◌, ◌<◌, ◌≤◌, ◌+◌, inl, inr, Bool, true, false, cond, refl, sym, subst, ap, ap₂, ◌∙◌, arith}
use Rattle.std.proofs.lemmas.Bool.{cases_eq, cases_Bool, ne_eqb, both_ways, false_from_ne_true}
use Rattle.av_interval.proofs.Modules.{add_old, add_new}
use Rattle.av_interval.specs.Points.{add}

-- 1 for a member, and else 0
abbrev pub one : Bool → ℕ
one true = 1
one false = 0

-- how many numbers below n are members
abbrev pub count : (ℕ → Bool) → ℕ → ℕ
count X zero = 0
count X (suc n) = one (X n) + count X n

-- that is at most 1
one_le : (b : Bool) → one b ≤ 1
one_le true = omega arith
one_le false = omega arith

-- there are at most n
pub count_le : (X : ℕ → Bool) (n : ℕ) → count X n ≤ n
count_le X zero = omega arith
count_le X (suc n) = omega (arith, one_le (X n), count_le X n)

-- a point that isn't in X, where X has fewer than n points
pub find_false : (X : ℕ → Bool) (n : ℕ) → count X n < n → (v : ℕ) × (v < n) × (X v ≡ false)
find_false X zero h = absurd (omega arith)
find_false X (suc n) h = elim (cases_Bool (X n)) [
  | inl e ↦ let r = find_false X n (omega (arith, h, ap one e)) in (r.0, omega (arith, r.1), r.2)
  | inr e ↦ (n, omega arith, e)
]

-- where there are n, all are members
pub all_true : (X : ℕ → Bool) (n : ℕ) → count X n ≡ n → (x : ℕ) → x < n → X x ≡ true
all_true X zero h x l = absurd (omega arith)
all_true X (suc n) h x l = elim (cases_Bool (X n)) [
  | inl e ↦ elim (cases_eq x n) [
    | inl k ↦ subst (λ t. X t ≡ true) (sym k) e
    | inr ne ↦ all_true X n (omega (arith, h, ap one e)) x (omega arith)
  ]
  | inr e ↦ absurd (omega (arith, h, ap one e, count_le X n))
]

-- and conversely
pub full : (X : ℕ → Bool) (n : ℕ) → ((x : ℕ) → x < n → X x ≡ true) → count X n ≡ n
full X zero h = refl
full X (suc n) h = omega (arith, ap one (h n (omega arith)), full X n (λ x l. h x (omega arith)))

-- other numbers are members as before
pub add_other : (X : ℕ → Bool) (v x : ℕ) → (x ≡ v → ⊥) → add X v x ≡ X x
add_other X v x ne = ap (λ (b : Bool). cond b true (X x)) (ne_eqb x v ne)

-- a new member from n on does not count
pub add_above : (X : ℕ → Bool) (v n : ℕ) → n ≤ v → count (add X v) n ≡ count X n
add_above X v zero h = refl
add_above X v (suc n) h = ap₂ (λ (a b : ℕ). a + b) (ap one (add_other X v n (omega arith))) (add_above X v n (omega arith))

-- a new one below n counts once
pub count_add : (X : ℕ → Bool) (v n : ℕ) → v < n → X v ≡ false → count (add X v) n ≡ suc (count X n)
count_add X v zero h e = absurd (omega arith)
count_add X v (suc n) h e = elim (cases_eq n v) [
  | inl k ↦ omega (arith, ap one (subst (λ t. add X v t ≡ true) (sym k) (add_new X v)), ap one (subst (λ t. X t ≡ false) (sym k) e), add_above X v n (omega arith))
  | inr ne ↦ omega (arith, ap one (add_other X v n ne), count_add X v n (omega arith) e)
]

-- the empty set
pub none : ℕ → Bool
none x = false

-- has no member
pub none_false : (x : ℕ) → none x ≡ false
unfolding none
none_false x = refl

-- so it counts none
pub count_none : (n : ℕ) → count none n ≡ 0
unfolding none
count_none zero = refl
count_none (suc n) = omega (arith, count_none n)

-- what is no member and is not added is none
pub add_false : (X : ℕ → Bool) (v x : ℕ) → (x ≡ v → ⊥) → X x ≡ false → add X v x ≡ false
add_false X v x ne e = add_other X v x ne ∙ e

-- two points outside, where there are at least two
pub two_out : (n : ℕ) (X : ℕ → Bool) → suc (count X n) < n → (v : ℕ) × (w : ℕ) × (v < n) × (w < n) × (X v ≡ false) × (X w ≡ false) × (v ≡ w → ⊥)
two_out n X h =
    let a = find_false X n (omega arith) in
    let b = find_false (add X a.0) n (omega (arith, count_add X a.0 n a.1 a.2, h)) in (
      a.0,
      b.0,
      a.1,
      b.1,
      a.2,
      false_from_ne_true (X b.0) (λ e. both_ways (add X a.0 b.0) b.2 (add_old X a.0 b.0 e)),
      λ e. both_ways (add X a.0 b.0) b.2 (subst (λ t. add X a.0 t ≡ true) e (add_new X a.0)),
    )
