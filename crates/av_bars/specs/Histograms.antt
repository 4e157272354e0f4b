-- Histograms: which values the words of a list have, and how many words have each.
use Rattle.std.specs.Prelude.{◌≡◌, ℕ, suc, ◌<◌, List, [], ◌∷◌, map, filter, max, cond, nat_eq, nat_lt, length, slice_index}
use Rattle.av_perm.specs.Lists.{counting}
use Rattle.av_perm.specs.Members.{In}
use Rattle.av_perm.specs.Stat.{statistic_of}
use Rattle.av_perm.specs.declared.StatKind.{StatKind}
use Rattle.av_bars.specs.declared.bars.Bar.{Bar}

-- how many of the words have the value
unfoldable pub how_many : StatKind → List (List ℕ) → ℕ → ℕ
how_many kind ws v = length (filter (λ w. nat_eq (statistic_of kind w) v) ws)

-- the greatest value that a word has, and 0 where there is no word
unfoldable pub greatest : StatKind → List (List ℕ) → ℕ
greatest kind [] = 0
greatest kind (w ∷ ws) = max (statistic_of kind w) (greatest kind ws)

-- a bar
abbrev pub bar : ℕ → ℕ → Bar
bar v k = record { value = v; count = k }

-- the bar of one value, where some have it
abbrev pub bar_at : ℕ → ℕ → List Bar
bar_at v k = cond (nat_lt 0 k) (bar v k ∷ []) []

-- a bar for each value below n that some have, in increasing order, where f tells how many have it
unfoldable pub bars_of : (ℕ → ℕ) → ℕ → List Bar
bars_of f n = map (λ v. bar v (f v)) (filter (λ v. nat_lt 0 (f v)) (counting 0 n))

-- the histogram of words: a bar for each value that some word has, in increasing order, with how many have it
unfoldable pub bars : StatKind → List (List ℕ) → List Bar
bars kind ws = bars_of (how_many kind ws) (suc (greatest kind ws))

-- the count at each place is that of the words with this value, and each word's value has a place
pub record Tallied (kind : StatKind) (counts : List ℕ) (ws : List (List ℕ)) : Type 0 where
  pub counted : (v : ℕ) → v < length counts → slice_index counts v ≡ how_many kind ws v
  pub placed : (w : List ℕ) → In w ws → statistic_of kind w < length counts
