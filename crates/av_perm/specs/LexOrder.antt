-- What is left of the arrangements of a list of numbers, from one of them on.
use Rattle.std.specs.Prelude.{ℕ, Bool, true, not, ◌&&◌, cond, List, [], ◌∷◌, ◌++◌, length, nat_lt, ◌==◌, filter, flat_map}
use Rattle.std.specs.List.{list_all}
use Rattle.av_perm.specs.Lists.{before_each}
use Rattle.av_perm.specs.Word.{arrangements}

-- x put at its place in an ascending list
abbrev pub put_in_order : ℕ → List ℕ → List ℕ
put_in_order x [] = x ∷ []
put_in_order x (y ∷ ys) = cond (nat_lt x y) (x ∷ y ∷ ys) (y ∷ put_in_order x ys)

-- the numbers of a list in ascending order
abbrev pub ascending : List ℕ → List ℕ
ascending [] = []
ascending (x ∷ xs) = put_in_order x (ascending xs)

-- the arrangements of the numbers of w, from w on in lexicographic order: those that begin as w does, and then those
-- that begin with a greater number of w
unfoldable pub from_on : List ℕ → List (List ℕ)
from_on [] = [] ∷ []
from_on (x ∷ w) =
    before_each x (from_on w)
    ++ flat_map (λ y. before_each y (arrangements (length w) (filter (λ z. not (z == y)) (ascending (x ∷ w))))) (filter (nat_lt x) (ascending w))

-- each is below x
abbrev pub are_below : ℕ → List ℕ → Bool
are_below x = list_all (λ y. nat_lt y x)

-- each entry is greater than those after it
abbrev pub descends : List ℕ → Bool
descends [] = true
descends (x ∷ xs) = are_below x xs && descends xs
