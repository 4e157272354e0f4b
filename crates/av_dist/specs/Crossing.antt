-- What an inflation adds to the statistics of its blocks, by the root and the sizes of the blocks.
use Rattle.std.specs.Prelude.{ℕ, ◌+◌, ◌*◌, cond, List, [], ◌∷◌, nat_lt}
use Rattle.av_perm.specs.Stat.{descents}
use Rattle.av_text.specs.declared.queries.DistKind.{DistKind}
use Rattle.av_text.specs.declared.queries.DistKind.TheVariants.{Inv, Des}

-- the sum of the sizes at the entries below x
abbrev pub lesser : ℕ → List ℕ → List ℕ → ℕ
lesser x [] ns = 0
lesser x (y ∷ ys) [] = 0
lesser x (y ∷ ys) (n ∷ ns) = cond (nat_lt y x) n 0 + lesser x ys ns

-- the sum of the products of two sizes, over the pairs of places of a root of which the first holds the greater entry
abbrev pub crossing : List ℕ → List ℕ → ℕ
crossing [] ns = 0
crossing (x ∷ xs) [] = 0
crossing (x ∷ xs) (n ∷ ns) = n * lesser x xs ns + crossing xs ns

-- what an inflation of a root by blocks of these sizes has beyond the statistics of its blocks
abbrev pub added : DistKind → List ℕ → List ℕ → ℕ
added Inv π ns = crossing π ns
added Des π ns = descents π
