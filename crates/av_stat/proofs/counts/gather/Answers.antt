-- A bar more where some have the value.
use Rattle.std.proofs.Common.{◌+◌, List, ◌++◌, get_or, sym, ap, ◌∙◌, arith}
use Rattle.av_bars.specs.declared.bars.Bar.{Bar}
use Rattle.av_bars.specs.Histograms.{bar_at}
use Rattle.av_bars.proofs.BarLists.{bars_zero, bars_after}
use Rattle.av_stat.proofs.counts.gather.Goals as goal

pub loop-value-init : goal.loop-value-init
loop-value-init c = c.empty-bars.ensures ∙ sym (bars_zero (λ v. get_or c.args.counts.now v 0))

pub loop-value-preserved : goal.loop-value-preserved
loop-value-preserved c =
    c.in_ok-push_bar.ensures.ok
    ∙ ap (λ (bs : List Bar). bs ++ bar_at c.loop-value.value (get_or c.args.counts.now c.loop-value.value 0)) c.loop-value.invariant
    ∙ sym (bars_after (λ v. get_or c.args.counts.now v 0) c.loop-value.value (c.loop-value.value + 1) (omega arith))
