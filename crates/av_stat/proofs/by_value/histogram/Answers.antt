-- Nothing is counted, and then each item.
use Rattle.std.proofs.Common.{◌≡◌, length, drop, List, ℕ, subst, sym, ap, ◌∙◌, arith}
use Rattle.std.specs.Prelude.{IfOk}
use Rattle.std.proofs.lemmas.List.{length-replicate, take_all, take-append-le}
use Rattle.av_bars.specs.declared.bars.Bar.{Bar}
use Rattle.av_bars.specs.Histograms.{Tallied}
use Rattle.av_stat.specs.Listed.{words_of}
use Rattle.av_bars.proofs.Counted.{none_tallied, tallied_bars}
use Rattle.av_stat.proofs.by_value.histogram.Goals as goal

pub tally-requires-clause-none : goal.tally-requires-clause-none
tally-requires-clause-none g c =
    let items : c.deref_mut.result.now ≡ _ = c.deref_mut.ensures.value ∙ c.in_ok-counts.ensures in
    none_tallied c.args.stat.now.kind c.deref_mut.result.now 12721 items (ap length items ∙ length-replicate {A = ℕ} 12721 0)

pub returns : goal.returns
returns g c =
    let zeros : length c.in_ok-counts.counts.items ≡ 12721 = ap length c.in_ok-counts.ensures ∙ length-replicate {A = ℕ} 12721 0 in
    let kept : c.in_ok-counts.counts.len ≡ length c.tally.new.counts = omega (arith, zeros, c.in_ok-counts.counts.ok, c.tally.ensures.width) in
    let same : c.deref.result.now ≡ c.tally.new.counts =
    c.deref.ensures.value
    ∙ take-append-le c.in_ok-counts.counts.len c.tally.new.counts (drop (length c.tally.new.counts) c.in_ok-counts.counts.items) (omega arith)
    ∙ take_all c.in_ok-counts.counts.len c.tally.new.counts (omega arith) in
    let long : length c.deref.result.now ≡ 12721 = ap length same ∙ c.tally.ensures.width in
    subst (λ (bs : List Bar). IfOk c.gather.result (λ b. b ≡ bs))
    (tallied_bars c.args.stat.now.kind c.deref.result.now (words_of c.args.lister) (omega arith)
    (subst (λ (counts : List ℕ). Tallied c.args.stat.now.kind counts (words_of c.args.lister)) (sym same) c.tally.ensures.tallied))
    c.gather.ensures
