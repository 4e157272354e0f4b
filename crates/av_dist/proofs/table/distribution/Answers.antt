-- The bars of the row of equation 0 are the distribution.
use Rattle.std.proofs.Common.{◌≡◌, List, subst}
use Rattle.std.specs.Prelude.{IfOk}
use Rattle.av_bars.specs.declared.dist_bars.DistBar.{DistBar}
use Rattle.av_dist.specs.Distributions.{dist}
use Rattle.av_dist.specs.Tables.{Stands}
use Rattle.av_dist.proofs.DistributionBars.{row_distribution}
use Rattle.av_dist.proofs.table.distribution.Goals as goal

pub returns : goal.returns
returns c =
    let t = c.table.inside.levels in
    subst (λ (s : Stands). IfOk c.gather.result (λ bars. bars ≡ dist s.kind s.system c.args.size)) c.table.view_is
    (subst (λ (ds : List DistBar). IfOk c.gather.result (λ bars. bars ≡ ds))
    (row_distribution t.kind t.system c.args.size c.row.result.now c.row.ensures.row c.row.ensures.wide) c.gather.ensures)
