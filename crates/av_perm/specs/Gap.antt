-- The simple words of a class by length, and where they stop.
use Rattle.std.specs.Prelude.{ℕ, suc, ◌-◌, ◌&&◌, List, filter, find, Option, Some, None, ◌≡◌, flat_map}
use Rattle.av_perm.specs.Lists.{counting, is_nil}
use Rattle.av_perm.specs.Class.{class_at}
use Rattle.av_perm.specs.Simple.{is_simple}

-- the simple words of length m of the class, in lexicographic order
unfoldable pub simples : List (List ℕ) → ℕ → List (List ℕ)
simples basis m = filter is_simple (class_at basis m)

-- the least g from 4 to limit - 1 such that the class has no simple word of length g or g + 1; None where there is no such g
unfoldable pub gap : List (List ℕ) → ℕ → Option ℕ
gap basis limit =
    find (λ g. is_nil (simples basis g) && is_nil (simples basis (suc g))) (counting 4 (limit - 4))

-- the class is settled with gap g at a limit
abbrev pub IsSettled : List (List ℕ) → ℕ → ℕ → Type 0
IsSettled basis limit g = gap basis limit ≡ Some g

-- there is no such gap
abbrev pub IsUnsettled : List (List ℕ) → ℕ → Type 0
IsUnsettled basis limit = gap basis limit ≡ None

-- all simple words of the class of length below g, in shortlex order
unfoldable pub simples_below : List (List ℕ) → ℕ → List (List ℕ)
simples_below basis g = flat_map (simples basis) (counting 4 (g - 4))
