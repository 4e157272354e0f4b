-- A simple set grows by two points at a time until it misses one point or two.
use Rattle.std.proofs.Common.{ℕ, zero, suc, ◌≡◌, ◌<◌, ◌≤◌, ◌+◌, inl, inr, Bool, true, false, ltb, sym, arith}
use Rattle.std.proofs.lemmas.Bool.{ltb-true, lt-ltb}
use Rattle.av_interval.specs.Points.{add}
use Rattle.av_interval.proofs.Modules.{add_old, add_cases, Simple, Others}
use Rattle.av_interval.proofs.TwoMore.{two_more}
use Rattle.av_interval.proofs.PointCounts.{count, count_add, add_false, find_false, all_true, two_out}

-- a larger set has other members too
others_add : (X : ℕ → Bool) (v : ℕ) → Others X → Others (add X v)
others_add X v o u = let r = o u in (r.0, r.1, add_old X v r.0 r.2, add_old X v r.1 r.3, r.4, r.5, r.6)

-- adding two at a time from a simple set reaches one that misses one point or two
module _ (c : ℕ → ℕ → ℕ) (turns : (x v w : ℕ) → (x ≡ v → ⊥) → (x ≡ w → ⊥) → c x v ≡ c x w → c v x ≡ c w x) (n : ℕ) (sV : Simple c (λ k. ltb k n))
    (one_off : (X : ℕ → Bool) → ((x : ℕ) → X x ≡ true → x < n) → Simple c X → 4 ≤ count X n → (v : ℕ) → v < n → X v ≡ false → ((x : ℕ) → x < n → (x ≡ v → ⊥) → X x ≡ true) → ⊥)
    (two_off : (X : ℕ → Bool) → ((x : ℕ) → X x ≡ true → x < n) → Simple c X → 4 ≤ count X n → (v w : ℕ) → v < n → w < n → (v ≡ w → ⊥) → X v ≡ false → X w ≡ false
    → ((x : ℕ) → x < n → (x ≡ v → ⊥) → (x ≡ w → ⊥) → X x ≡ true) → ⊥) where
  -- a part of the numbers below n stays one
  sub_add : (X : ℕ → Bool) → ((x : ℕ) → X x ≡ true → x < n) → (v : ℕ) → v < n → (x : ℕ) → add X v x ≡ true → x < n
  sub_add X sub v vn x h = elim (add_cases X v x h) [ inl e ↦ omega (arith, e, vn) | inr k ↦ sub x k ]

  -- a member that was not added was one
  from_add : (X : ℕ → Bool) (v x : ℕ) → (x ≡ v → ⊥) → add X v x ≡ true → X x ≡ true
  from_add X v x ne h = elim (add_cases X v x h) [ inl e ↦ absurd (ne e) | inr k ↦ k ]

  -- two at a time: at the end one is left out, or two
  pub climb : (m : ℕ) (X : ℕ → Bool) → ((x : ℕ) → X x ≡ true → x < n) → Simple c X → Others X → 4 ≤ count X n → count X n + suc m ≡ n → ⊥
  climb zero X sub sX others c4 e =
      let a = find_false X n (omega arith) in
      one_off X sub sX c4 a.0 a.1 a.2 (λ x xn ne. from_add X a.0 x ne (all_true (add X a.0) n (omega (arith, count_add X a.0 n a.1 a.2, e)) x xn))
  climb (suc zero) X sub sX others c4 e =
      let t = two_out n X (omega arith) in
      two_off X sub sX c4 t.0 t.1 t.2 t.3 t.6 t.4 t.5 (λ x xn nv nw. from_add X t.0 x nv (from_add (add X t.0) t.1 x nw
      (all_true (add (add X t.0) t.1) n (omega (arith, count_add X t.0 n t.2 t.4, count_add (add X t.0) t.1 n t.3 (add_false X t.0 t.1 (λ k. t.6 (sym k)) t.5), e)) x xn)))
  climb (suc (suc m)) X sub sX others c4 e =
      let t = two_out n X (omega arith) in
      two_more c turns X sX others (λ k. ltb k n) (λ x h. lt-ltb x n (sub x h)) sV t.0 t.1 (lt-ltb t.0 n t.2) (lt-ltb t.1 n t.3) t.4 t.5 t.6
      (λ v w hv hw xv xw ne s.
      let vn : v < n = ltb-true v n hv in
      let wn : w < n = ltb-true w n hw in
      climb m (add (add X v) w) (sub_add (add X v) (sub_add X sub v vn) w wn) s (others_add (add X v) w (others_add X v others))
      (omega (arith, c4, count_add X v n vn xv, count_add (add X v) w n wn (add_false X v w (λ k. ne (sym k)) xw)))
      (omega (arith, count_add X v n vn xv, count_add (add X v) w n wn (add_false X v w (λ k. ne (sym k)) xw), e)))
