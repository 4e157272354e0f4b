-- Intervals, simple words, sums and skew sums.
use Rattle.std.specs.Prelude.{ℕ, suc, ◌+◌, ◌-◌, Bool, not, ◌&&◌, List, [], ◌∷◌, length, nat_lt, nat_le, take, drop}
use Rattle.std.specs.List.{list_all, list_any}
use Rattle.av_perm.specs.Lists.{counting, same}
use Rattle.av_perm.specs.Pattern.{pattern_of}
use Rattle.av_perm.specs.Inflate.{inflate}

-- the numbers xs, which are different and from 1 to n, lie among as many consecutive numbers
abbrev pub is_run : ℕ → List ℕ → Bool
is_run n xs =
    list_any (λ lo. list_all (λ x. nat_le lo x && nat_lt x (lo + length xs)) xs) (counting 1 n)

-- the k places after the first i of a word are an interval
abbrev pub is_interval : List ℕ → ℕ → ℕ → Bool
is_interval w i k = is_run (length w) (take k (drop i w))

-- of a word: at least four entries, and no interval of 2 to n - 1 places
unfoldable pub is_simple : List ℕ → Bool
is_simple w = let n = length w in
    nat_le 4 n
    && list_all (λ k. list_all (λ i. not (is_interval w i k)) (counting 0 (suc n - k))) (counting 2 (n - 2))

-- the word is the sum of the patterns of its first k entries and of the rest, for k from 1 to n - 1
abbrev pub is_sum_at : List ℕ → ℕ → Bool
is_sum_at w k = same w (inflate (1 ∷ 2 ∷ []) (pattern_of (take k w) ∷ pattern_of (drop k w) ∷ []))

-- the same for the skew sum
abbrev pub is_skew_at : List ℕ → ℕ → Bool
is_skew_at w k = same w (inflate (2 ∷ 1 ∷ []) (pattern_of (take k w) ∷ pattern_of (drop k w) ∷ []))

-- no such k from 1 to n - 1: the word is not 12[α, β] for any words
unfoldable pub is_sum_indecomposable : List ℕ → Bool
is_sum_indecomposable w = list_all (λ k. not (is_sum_at w k)) (counting 1 (length w - 1))

-- the same for 21[α, β]
unfoldable pub is_skew_indecomposable : List ℕ → Bool
is_skew_indecomposable w = list_all (λ k. not (is_skew_at w k)) (counting 1 (length w - 1))
