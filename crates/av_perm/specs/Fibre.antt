-- The items that a map of places sends to one child.
use Rattle.std.specs.Prelude.{ℕ, cond, eqb, List, [], ◌∷◌}

-- the items of `xs` at the places that `e` sends to child `i`
abbrev pub fibre : {A : Type 0} → List A → List ℕ → ℕ → List A
fibre [] e i = []
fibre (x ∷ xs) [] i = []
fibre (x ∷ xs) (c ∷ e) i = cond (eqb c i) (x ∷ fibre xs e i) (fibre xs e i)
