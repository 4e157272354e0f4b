-- The law of statistics of inflations.
use Rattle.std.specs.Prelude.{◌≡◌, ℕ, ◌+◌, ◌*◌, Bool, ◌&&◌, cond, List, length, map, sum_by, nat_lt}
use Rattle.av_perm.specs.Lists.{counting}
use Rattle.av_perm.specs.Relations.{IsWord, AreBlocks, inflate, at, block}
use Rattle.av_perm.specs.Stat.{inversions, descents}
use Rattle.av_dist.specs.Crossing.{crossing}

-- the sum of f over the numbers below n
abbrev pub sum_below : (ℕ → ℕ) → ℕ → ℕ
sum_below f n = sum_by f (counting 0 n)

-- place i comes before place j and holds the greater entry; places are counted from 0
abbrev pub is_inversion : List ℕ → ℕ → ℕ → Bool
is_inversion w i j = nat_lt i j && nat_lt (at w j) (at w i)

-- the inversions of an inflation are those of its blocks, and for each inversion of the root the product of the sizes of its two
-- blocks. Its descents are those of its blocks and those of the root
pub record InflationStatistics (π : List ℕ) (αs : List (List ℕ)) : Type 0 where
  pub inversions_are : inversions (inflate π αs) ≡ sum_by inversions αs + crossing π (map length αs)
  pub crossing_is : crossing π (map length αs)
      ≡ sum_below (λ i. sum_below (λ j. cond (is_inversion π i j) (length (block αs i) * length (block αs j)) 0) (length π)) (length π)
  pub descents_are : descents (inflate π αs) ≡ sum_by descents αs + descents π

-- so of every word and its blocks
abbrev pub InflationStatisticsLaw : Type 0
InflationStatisticsLaw = (π : List ℕ) (αs : List (List ℕ)) → IsWord π → AreBlocks π αs → InflationStatistics π αs
