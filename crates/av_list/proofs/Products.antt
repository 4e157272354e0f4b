-- Products above a number.
use Rattle.std.proofs.Common.{ℕ, zero, suc, ◌*◌, ◌<◌, arith}

-- a product of numbers above 0 is above 0
pub both_some : (a b : ℕ) → 0 < a → 0 < b → 0 < a * b
both_some zero b p q = absurd (omega arith)
both_some (suc a) zero p q = absurd (omega arith)
both_some (suc a) (suc b) p q = omega arith

-- a product above a number has a first factor above 0
pub left_some : (a b r : ℕ) → r < a * b → 0 < a
left_some zero b r p = absurd (omega arith)
left_some (suc a) b r p = omega arith

-- and a second one
pub right_some : (a b r : ℕ) → r < a * b → 0 < b
right_some a zero r p = absurd (omega arith)
right_some a (suc b) r p = omega arith
