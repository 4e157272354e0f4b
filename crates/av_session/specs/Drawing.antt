-- Draws from a list of words, and what a statistic says of the words drawn.
use Rattle.std.specs.Prelude.{ℕ, min, max, List, [], ◌∷◌, length, map, fold, sum, get_or, codes, decimal}
use Rattle.av_perm.specs.Lists.{counting}
use Rattle.av_perm.specs.Stat.{statistic_of}
use Rattle.av_perm.specs.declared.StatKind.{StatKind}
use Rattle.av_draw.specs.Drawn.{drawn}
use Rattle.av_print.specs.Text.{◌⊹◌}

-- draw number d of a seed from a list of words: the rank, and the word there
abbrev pub draw : List (List ℕ) → ℕ → ℕ → ℕ × List ℕ
draw ws seed d = (drawn seed d (length ws), get_or ws (drawn seed d (length ws)) [])

-- the draws of the numbers 0 to k - 1; a word may come more than once
abbrev pub draws : List (List ℕ) → ℕ → ℕ → List (ℕ × List ℕ)
draws ws seed k = map (draw ws seed) (counting 0 k)

-- the values of a statistic at the words drawn, one a draw
abbrev pub drawn_values : StatKind → List (ℕ × List ℕ) → List ℕ
drawn_values t rows = map (λ row. statistic_of t row.1) rows

-- the least and the greatest of some numbers
abbrev pub least_of : List ℕ → ℕ
least_of [] = 0
least_of (x ∷ xs) = fold min x xs

abbrev pub greatest_of : List ℕ → ℕ
greatest_of [] = 0
greatest_of (x ∷ xs) = fold max x xs

-- these, and their sum
unfoldable pub summary_text : List ℕ → List ℕ
summary_text xs = codes "least " ⊹ decimal (least_of xs) ⊹ codes " most " ⊹ decimal (greatest_of xs) ⊹ codes " total " ⊹ decimal (sum xs)
