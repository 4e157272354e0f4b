-- The bars of the row of an equation are the distribution over its members.
use Rattle.std.proofs.Common.{◌≡◌, ℕ, List, map, length, sym, ap, ◌∙◌, arith}
use Rattle.av_perm.specs.Relations.{at}
use Rattle.av_perm.proofs.Membership.{map_In}
use Rattle.av_sys.specs.declared.terms.System.{System}
use Rattle.av_sys.specs.TreeLists.{members_at, members}
use Rattle.av_text.specs.declared.queries.DistKind.{DistKind}
use Rattle.av_text.specs.Queries.{stat_kind}
use Rattle.av_bars.specs.Histograms.{Tallied}
use Rattle.av_bars.specs.Distributions.{dist_bars}
use Rattle.av_bars.proofs.Counted.{tallied_bars}
use Rattle.av_bars.proofs.Distributions.{widened, bars_widened, distribution_widened}
use Rattle.av_dist.specs.Kinds.{statistic_by, statistics_at}
use Rattle.av_dist.specs.Distributions.{dist}
use Rattle.av_dist.specs.Rows.{IsRowOf, width}
use Rattle.av_dist.proofs.SumProducts.{row_reaches}
use Rattle.av_dist.proofs.MemberStatistics.{number_often}

-- the row of an equation counts its members by value
row_tallied : (k : DistKind) (S : System) (u n : ℕ) (row : List ℕ) → IsRowOf (statistics_at k S u n) row → Tallied (stat_kind k) row (members_at S u n)
unfolding statistics_at
row_tallied k S u n row r = record {
  counted = λ v h. r v ∙ sym (number_often k S u n v);
  placed = λ w i. row_reaches (statistics_at k S u n) row r (statistic_by k w) (map_In (statistic_by k) (members_at S u n) w i);
}

-- so its bars are the distribution
pub row_distribution : (k : DistKind) (S : System) (n : ℕ) (row : List ℕ) → IsRowOf (statistics_at k S 0 n) row → length row ≡ width n
    → dist_bars (at row) (length row) ≡ dist k S n
unfolding dist members
row_distribution k S n row r l =
    bars_widened (at row) (length row)
    ∙ ap (map widened) (tallied_bars (stat_kind k) row (members_at S 0 n) (omega arith) (row_tallied k S 0 n row r))
    ∙ sym (distribution_widened (stat_kind k) (members_at S 0 n))
