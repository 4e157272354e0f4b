-- The statistics of which there are distributions, of the members of a system.
use Rattle.std.specs.Prelude.{ℕ, List, map}
use Rattle.av_perm.specs.Stat.{statistic_of}
use Rattle.av_text.specs.declared.queries.DistKind.{DistKind}
use Rattle.av_text.specs.Queries.{stat_kind}
use Rattle.av_sys.specs.declared.terms.System.{System}
use Rattle.av_sys.specs.TreeLists.{members_at}

-- the statistic of a kind of a word
abbrev pub statistic_by : DistKind → List ℕ → ℕ
statistic_by k w = statistic_of (stat_kind k) w

-- the statistics of the members of an equation of a size, in the order of the members
unfoldable pub statistics_at : DistKind → System → ℕ → ℕ → List ℕ
statistics_at k S u n = map (statistic_by k) (members_at S u n)
