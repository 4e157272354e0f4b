-- One bar more, where some have the value, and in the end those of all values.
use Rattle.std.proofs.Common.{◌≡◌, ◌+◌, ◌++◌, List, length, ap, ap₂, ◌∙◌, sym, arith}
use Rattle.av_perm.specs.Relations.{at}
use Rattle.av_bars.specs.declared.dist_bars.DistBar.{DistBar}
use Rattle.av_bars.specs.Distributions.{dist_bar_at, dist_bars}
use Rattle.av_bars.proofs.Distributions.{no_bars, bars_next}
use Rattle.av_dist.proofs.bars.gather.Goals as goal

pub loop-value-init : goal.loop-value-init
loop-value-init c = no_bars (at c.args.row.now) c.empty-bars.result c.empty-bars.ensures

pub loop-value-preserved : goal.loop-value-preserved
loop-value-preserved c =
    let f = at c.args.row.now in
    let v = c.loop-value.value in
    c.in_ok-push_bar.ensures.ok
    ∙ ap₂ (λ (ds es : List DistBar). ds ++ es) c.loop-value.invariant (ap (dist_bar_at v) c.get.ensures)
    ∙ sym (bars_next f v (v + 1) (omega arith))

pub returns : goal.returns
returns c =
    let e : c.loop-value.value ≡ length c.args.row.now = omega (arith, c.loop-value-test.false, c.loop-value.auto.value-end, c.len-value-end.ensures) in
    c.loop-value.invariant ∙ ap (dist_bars (at c.args.row.now)) e
