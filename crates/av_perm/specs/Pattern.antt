-- The word in the same relative order as given different numbers.
use Rattle.std.specs.Prelude.{ℕ, suc, ◌+◌, cond, List, [], ◌∷◌, map, ltb}

-- how many entries of `w` are below `v`
abbrev pub smaller : ℕ → List ℕ → ℕ
smaller v [] = 0
smaller v (x ∷ xs) = cond (ltb x v) 1 0 + smaller v xs

-- each entry is one more than the number of entries below it
abbrev pub pattern_of : List ℕ → List ℕ
pattern_of w = map (λ v. suc (smaller v w)) w
