-- Words: lists of the numbers 1..n, each once. Places are numbered from 1.
use Rattle.std.specs.Prelude.{ℕ, zero, suc, Bool, true, false, not, ◌&&◌, List, [], ◌∷◌, length, nat_le, nat_lt, ◌==◌, slice_index, filter, flat_map, ◌||◌, take, find, unwrap_or, if◌then◌else◌, All, IsTrue}
use Rattle.std.specs.List.{list_all, list_any}
use Rattle.std.specs.declared.cmp.Ordering.{Ordering}
use Rattle.std.specs.Ordering.{then_cmp, on, nat_cmp}
use Rattle.std.specs.Cmp.Lexicographic.{slice_cmp}
use Rattle.av_perm.specs.Lists.{counting, before_each}
use Rattle.av_perm.specs.declared.limits.TheConstants.{MAX_LENGTH}

-- the entry at a place, and 0 where there is no such place
abbrev pub entry : List ℕ → ℕ → ℕ
entry w zero = 0
entry w (suc p) = slice_index w p

-- the places of a word
abbrev pub places : List ℕ → List ℕ
places w = counting 1 (length w)

-- no entry is equal to a later one
abbrev pub is_distinct : List ℕ → Bool
is_distinct [] = true
is_distinct (x ∷ xs) = not (list_any (λ y. y == x) xs) && is_distinct xs

-- a word: at least one entry, each of the numbers 1 to the length, no two equal
abbrev pub is_word : List ℕ → Bool
is_word w =
    nat_le 1 (length w) && (list_all (λ x. nat_le 1 x && nat_le x (length w)) w && is_distinct w)

-- the words that the type `Perm` holds
abbrev pub is_perm : List ℕ → Bool
is_perm w = is_word w && nat_le (length w) MAX_LENGTH

-- each of a list is one of those
abbrev pub ArePerms : List (List ℕ) → Type 0
ArePerms ws = All (λ w. IsTrue (is_perm w)) ws

-- by length, then lexicographically
abbrev pub shortlex : List ℕ → List ℕ → Ordering
shortlex = then_cmp (on length nat_cmp) (slice_cmp nat_cmp)

-- the arrangements of k elements of a list without repeats, in lexicographic order of places
unfoldable pub arrangements : ℕ → List ℕ → List (List ℕ)
arrangements zero xs = [] ∷ []
arrangements (suc k) xs =
    flat_map (λ x. before_each x (arrangements k (filter (λ y. not (y == x)) xs))) xs

-- all words of length n in lexicographic order, for n of at least 1
abbrev pub words : ℕ → List (List ℕ)
words n = arrangements n (counting 1 n)

-- the number is no entry of a word of length n
abbrev pub is_out_of_range : ℕ → ℕ → Bool
is_out_of_range n x = x == 0 || nat_lt n x

-- the entry at a place is 0, above the length, or equal to an earlier one
abbrev pub is_fault : List ℕ → ℕ → Bool
is_fault xs zero = false
is_fault xs (suc i) = is_out_of_range (length xs) (slice_index xs i) || list_any (λ y. y == slice_index xs i) (take i xs)

-- the place of the first such entry, and 0 where there is none; the length plus 1 for a length of 0 or above the greatest
unfoldable pub fault_place : List ℕ → ℕ
fault_place xs =
    if nat_le 1 (length xs) && nat_le (length xs) MAX_LENGTH then unwrap_or (find (is_fault xs) (places xs)) 0
    else suc (length xs)
