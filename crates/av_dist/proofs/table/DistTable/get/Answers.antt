-- The row of the equation and the size has the number.
use Rattle.std.proofs.Common.{◌≡◌, ◌∙◌, sym, subst}
use Rattle.av_dist.specs.Distributions.{number_with}
use Rattle.av_dist.specs.Tables.{Stands}
use Rattle.av_dist.proofs.MemberStatistics.{number_often}
use Rattle.av_dist.proofs.table.DistTable.get.Goals as goal

pub returns : goal.returns
returns c =
    let t = c.self.inside.levels in
    subst (λ (s : Stands). c.get.result ≡ number_with s.kind s.system c.args.eq c.args.size c.args.value) c.self.view_is
    (c.get.ensures ∙ c.row.ensures.row c.args.value ∙ sym (number_often t.kind t.system c.args.eq c.args.size c.args.value))
