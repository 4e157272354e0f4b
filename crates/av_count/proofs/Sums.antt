-- Sums that are over.
use Rattle.std.proofs.Common.{◌≡◌, ℕ, zero, suc, ◌+◌, ◌*◌, ◌-◌, ◌^◌, ◌≤◌, false, nat_lt, refl, sym, ◌∙◌, ap, arith}
use Rattle.std.proofs.lemmas.Bool.{le-ltb}
use Rattle.av_count.specs.declared.count.Count.TheVariants.{Over}
use Rattle.av_count.specs.Counts.{capped}
use Rattle.av_count.specs.Choices.{ahead}
use Rattle.av_count.proofs.Members.{ahead_more}

-- a number from the border on is over
capped_over : (n : ℕ) → 2 ^ 128 ≤ n → capped n ≡ Over
unfolding capped
capped_over n h = let e : nat_lt n (2 ^ 128) ≡ false = le-ltb n (2 ^ 128) h in rw e refl

-- and so is one that is no less
pub still_over : (m n : ℕ) → 2 ^ 128 ≤ m → m ≤ n → capped m ≡ capped n
still_over m n h le = capped_over m h ∙ sym (capped_over n (omega arith))

-- a sum of more sizes is no less
pub ahead_grows : (f g : ℕ → ℕ) (n m k j : ℕ) → k ≤ j → ahead f g n m k ≤ ahead f g n m j
ahead_grows f g n m zero j h = omega arith
ahead_grows f g n m (suc k) zero h = absurd (omega arith)
ahead_grows f g n m (suc k) (suc j) h = omega (arith, ahead_grows f g n (suc m) k j (omega arith))

-- the size m after those before it
pub size_more : (f g : ℕ → ℕ) (n m : ℕ) → 1 ≤ m → ahead f g n 1 (m - 1) + f m * g (n - m) ≡ ahead f g n 1 (m + 1 - 1)
size_more f g n zero h = absurd (omega arith)
size_more f g n (suc k) h =
    let a : suc k - 1 ≡ k = omega arith in
    let b : suc k + 1 - 1 ≡ suc k = omega arith in
    let c : 1 + k ≡ suc k = omega arith in
    rw (a, b, ahead_more f g n 1 k, c) refl

-- which are none where there is no tree of size m
pub size_none : (f g : ℕ → ℕ) (n m : ℕ) → 1 ≤ m → f m ≡ 0 → ahead f g n 1 (m - 1) ≡ ahead f g n 1 (m + 1 - 1)
size_none f g n m h e = sym (ap (λ k. ahead f g n 1 (m - 1) + k * g (n - m)) e ∙ plus_none (ahead f g n 1 (m - 1)) (g (n - m))) ∙ size_more f g n m h
  where
    plus_none : (x y : ℕ) → x + 0 * y ≡ x
    plus_none x y = omega arith
