-- One item more is counted at its value.
use Rattle.std.proofs.Common.{ℕ, List, ◌<◌, length, subst, sym, ap, ◌∙◌, arith}
use Rattle.std.proofs.lemmas.List.{length-set}
use Rattle.av_bars.specs.Histograms.{Tallied}
use Rattle.av_stat.specs.Listed.{words_of}
use Rattle.av_bars.proofs.Counted.{word_tallied}
use Rattle.av_stat.proofs.Listed.{words_more, turn, room, all_came}
use Rattle.av_stat.proofs.by_value.tally.Goals as goal

pub raise-requires-clause-fits : goal.raise-requires-clause-fits
raise-requires-clause-fits g c =
    let within : c.of.result < length c.loop-item.counts = omega (arith, c.of.ensures.few, c.loop-item.invariant.width) in
    omega (
      arith,
      c.loop-item.invariant.tallied.counted c.of.result within,
      room c.args.stat.now.kind c.loop-item.yielded c.loop-item.item-iterator c.next.new.self c.args.lister c.in-Some.item c.of.result c.loop-item.invariant.left c.in-Some.ensures.steps c.requires.few,
    )

pub loop-item-preserved : goal.loop-item-preserved
loop-item-preserved g c =
    let within : c.of.result < length c.loop-item.counts = omega (arith, c.of.ensures.few, c.loop-item.invariant.width) in
    record {
      left = turn c.loop-item.yielded c.loop-item.item-iterator c.next.new.self c.args.lister c.in-Some.item c.loop-item.invariant.left c.in-Some.ensures.steps;
      width = ap length c.raise.ensures ∙ length-set c.loop-item.counts c.of.result _ ∙ c.loop-item.invariant.width;
      tallied = subst (Tallied c.args.stat.now.kind c.raise.new.counts) (sym (words_more c.loop-item.yielded c.in-Some.item))
          (word_tallied c.args.stat.now.kind c.loop-item.counts c.raise.new.counts (words_of c.loop-item.yielded) c.in-Some.item.1 c.of.result c.of.ensures.value within c.raise.ensures c.loop-item.invariant.tallied);
    }

pub returns-clause-tallied : goal.returns-clause-tallied
returns-clause-tallied g c =
    subst (λ (is : List (ℕ × List ℕ)). Tallied c.args.stat.now.kind c.loop-item.counts (words_of is))
    (all_came c.loop-item.yielded c.loop-item.item-iterator c.args.lister c.loop-item.invariant.left c.in-None.ensures.steps.0) c.loop-item.invariant.tallied
