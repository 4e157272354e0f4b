-- Distributions over the members of a system.
use Rattle.std.specs.Prelude.{ℕ, List}
use Rattle.av_sys.specs.declared.terms.System.{System}
use Rattle.av_sys.specs.TreeLists.{members_at, members}
use Rattle.av_text.specs.declared.queries.DistKind.{DistKind}
use Rattle.av_text.specs.Queries.{stat_kind}
use Rattle.av_bars.specs.declared.dist_bars.DistBar.{DistBar}
use Rattle.av_bars.specs.Histograms.{how_many}
use Rattle.av_bars.specs.Distributions.{distribution_of}

-- how many members of an equation of a size have the value
abbrev pub number_with : DistKind → System → ℕ → ℕ → ℕ → ℕ
number_with k S u n v = how_many (stat_kind k) (members_at S u n) v

-- the distribution over the members of a length
unfoldable pub dist : DistKind → System → ℕ → List DistBar
dist k S n = distribution_of (stat_kind k) (members S n)
