-- The items of a lister.
use Rattle.std.specs.Prelude.{ℕ, ◌+◌, ◌-◌, ◌^◌, List, [], ◌∷◌, take}

-- the words with their ranks, the first of rank r
abbrev pub ranked : ℕ → List (List ℕ) → List (ℕ × List ℕ)
ranked r [] = []
ranked r (w ∷ ws) = (r, w) ∷ ranked (r + 1) ws

-- those with a rank below 2 ^ 128
abbrev pub items_from : ℕ → List (List ℕ) → List (ℕ × List ℕ)
items_from r ws = take (2 ^ 128 - r) (ranked r ws)
