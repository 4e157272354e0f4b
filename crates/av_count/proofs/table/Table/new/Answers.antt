-- Rows of 0 hold below size 1.
use Rattle.std.proofs.Common.{◌≡◌, ◌+◌, length, sym, ◌∙◌, ap, ap₂, replicate}
use Rattle.av_sys.specs.declared.terms.System.{System}
use Rattle.av_count.specs.declared.count.Count.TheVariants.{Known}
use Rattle.av_count.proofs.Filled.{filled_zero}
use Rattle.av_count.proofs.table.Table.new.Goals as goal

pub loop-size-init : goal.loop-size-init
loop-size-init c =
    let g = c.in_ok-layout.layout in
    let stands = c.in_ok-layout.ensures.stands in
    let width = ap (λ k. k + 1) (sym stands.1) in
    let equations : c.len.result ≡ length g.of.value.equations = c.len.ensures.value ∙ ap (λ (S : System). length S.equations) (sym stands.0) in
    filled_zero g c.in_ok-counts.counts c.in_ok-rests.rests
    (c.in_ok-counts.ensures ∙ ap₂ (λ k w. replicate k (replicate w (Known 0))) equations width)
    (c.in_ok-rests.ensures ∙ ap₂ (λ k w. replicate k (replicate w (Known 0))) c.len-2.ensures width)
