-- Distributions: the same bars with wider counts.
use Rattle.std.specs.Prelude.{ℕ, suc, cond, List, [], ◌∷◌, map, filter, nat_lt}
use Rattle.av_perm.specs.Lists.{counting}
use Rattle.av_perm.specs.declared.StatKind.{StatKind}
use Rattle.av_bars.specs.declared.dist_bars.DistBar.{DistBar}
use Rattle.av_bars.specs.Histograms.{how_many, greatest}

-- a value, and how many words have it
abbrev pub dist_bar : ℕ → ℕ → DistBar
dist_bar v m = record { value = v; count = m }

-- the bar of one value, where some have it
abbrev pub dist_bar_at : ℕ → ℕ → List DistBar
dist_bar_at v m = cond (nat_lt 0 m) (dist_bar v m ∷ []) []

-- a bar for each value below n that some have, in increasing order, where f tells how many have it
unfoldable pub dist_bars : (ℕ → ℕ) → ℕ → List DistBar
dist_bars f n = map (λ v. dist_bar v (f v)) (filter (λ v. nat_lt 0 (f v)) (counting 0 n))

-- the distribution over words: a bar for each value that some of them have, in increasing order, with how many have it
unfoldable pub distribution_of : StatKind → List (List ℕ) → List DistBar
distribution_of kind ws = dist_bars (how_many kind ws) (suc (greatest kind ws))
