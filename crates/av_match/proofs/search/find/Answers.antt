-- Nothing is chosen at the start, so what is found is the first occurrence.
use Rattle.std.proofs.Common.{ℕ, List, arith, sym, ◌∙◌, subst}
use Rattle.av_match.specs.Search.{IsBegun}
use Rattle.av_match.proofs.Completed.{begun_empty, found_first, first_short, first_places}
use Rattle.av_match.proofs.search.find.Goals as goal

pub returns-then-len : goal.returns-then-len
returns-then-len c =
    sym (first_short c.args.word.now c.args.pattern.now (omega (arith, c.len.ensures.value, c.len-2.ensures.value)))

pub extend-requires-clause-begun : goal.extend-requires-clause-begun
extend-requires-clause-begun c =
    subst (λ (cs : List ℕ). IsBegun c.as_slice-entries.result.now c.as_slice-order.result.now cs) (sym c.new-chosen.ensures) (begun_empty c.as_slice-entries.result.now c.as_slice-order.result.now)

pub of-requires : goal.of-requires
of-requires c =
    first_places c.args.word.now c.args.pattern.now c.extend.new.chosen.items
    (sym (c.if-extend.ensures.found ∙ found_first _ _ _ _ _ c.as_slice-entries.ensures c.as_slice-order.ensures c.new-chosen.ensures))

pub returns-then-extend : goal.returns-then-extend
returns-then-extend c =
    rw c.of.ensures (c.if-extend.ensures.found ∙ found_first _ _ _ _ _ c.as_slice-entries.ensures c.as_slice-order.ensures c.new-chosen.ensures)

pub returns-else-extend : goal.returns-else-extend
returns-else-extend c =
    c.if-extend.ensures.found ∙ found_first _ _ _ _ _ c.as_slice-entries.ensures c.as_slice-order.ensures c.new-chosen.ensures
