-- The laws of histograms and of distributions.
use Rattle.std.specs.Prelude.{◌≡◌, ℕ, ◌<◌, ◌↔◌, List, map}
use Rattle.std.specs.Ordering.{nat_cmp}
use Rattle.av_perm.specs.Members.{In, Ascending}
use Rattle.av_perm.specs.Stat.{statistic_of}
use Rattle.av_perm.specs.declared.StatKind.{StatKind}
use Rattle.av_bars.specs.declared.bars.Bar.{Bar}
use Rattle.av_bars.specs.declared.dist_bars.DistBar.{DistBar}
use Rattle.av_bars.specs.Histograms.{how_many, bars}
use Rattle.av_bars.specs.Distributions.{distribution_of}

-- the values increase, each has as many words as its bar says, at least one, and each word's value has a bar
pub record IsHistogram (kind : StatKind) (ws : List (List ℕ)) (bs : List Bar) : Type 0 where
  pub increasing : Ascending nat_cmp (map (λ (b : Bar). b.value) bs)
  pub counted : (b : Bar) → In b bs → (b.count ≡ how_many kind ws b.value) × (0 < b.count)
  pub whole : (w : List ℕ) → In w ws → In (statistic_of kind w) (map (λ (b : Bar). b.value) bs)

-- so of every list of words
abbrev pub HistogramLaw : Type 0
HistogramLaw = (kind : StatKind) (ws : List (List ℕ)) → IsHistogram kind ws (bars kind ws)

-- the values of the bars increase; there is a bar for each value that some of the words have, with their number, and no other
pub record HasDistribution (kind : StatKind) (ws : List (List ℕ)) (ds : List DistBar) : Type 0 where
  pub increasing : Ascending nat_cmp (map (λ (d : DistBar). d.value) ds)
  pub bars_are : (d : DistBar) → In d ds ↔ (d.count ≡ how_many kind ws d.value) × (0 < d.count)

-- so of the distribution over every list of words, and of no other bars
abbrev pub DistributionLaw : Type 0
DistributionLaw = (kind : StatKind) (ws : List (List ℕ)) (ds : List DistBar) → HasDistribution kind ws ds ↔ (ds ≡ distribution_of kind ws)

-- a value and a count
abbrev pub pair_of : DistBar → ℕ × ℕ
pair_of d = (d.value, d.count)

abbrev pub histogram_pair : Bar → ℕ × ℕ
histogram_pair b = (b.value, b.count)

-- the distribution over words has the values and the counts of their histogram
abbrev pub SameHistogramLaw : Type 0
SameHistogramLaw = (kind : StatKind) (ws : List (List ℕ)) → map pair_of (distribution_of kind ws) ≡ map histogram_pair (bars kind ws)
