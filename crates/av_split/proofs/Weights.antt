-- How many steps are left of a walk, by the open questions of its boxes.
use Rattle.std.proofs.Common.{ℕ, zero, suc, ◌+◌, ◌<◌, ◌≤◌, List, [], ◌∷◌, arith}
use Rattle.av_split.specs.Split.{Demand, questions_of}
use Rattle.av_split.specs.Boxes.{Question, Box, word_rules}
use Rattle.av_split.proofs.OpenQuestions.{open_count}

-- how many steps a box with n open questions takes at most
abbrev pub weight : ℕ → ℕ
weight zero = 1
weight (suc n) = suc (weight n + weight n)

-- more open questions weigh more
pub weight_mono : (a n : ℕ) → a ≤ n → weight a ≤ weight n
weight_mono zero zero h = omega arith
weight_mono zero (suc n) h = omega arith
weight_mono (suc a) zero h = absurd (omega arith)
weight_mono (suc a) (suc n) h = let r = weight_mono a n (omega arith) in omega arith

-- two boxes with fewer open questions weigh less together
pub weight_two : (a b n : ℕ) → a < n → b < n → weight a + weight b < weight n
weight_two a b zero h k = absurd (omega arith)
weight_two a b (suc n) h k = let r = weight_mono a n (omega arith) in let s = weight_mono b n (omega arith) in omega arith

-- some weight
pub weight_some : (n : ℕ) → 1 ≤ weight n
weight_some zero = omega arith
weight_some (suc n) = omega arith

-- the weight of some boxes
abbrev pub weights : List (Demand Question) → List Box → ℕ
weights ds [] = 0
weights ds (b ∷ bs) = weight (open_count (word_rules.known b) (questions_of ds)) + weights ds bs
