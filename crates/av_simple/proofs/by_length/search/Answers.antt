-- A turn of the search, a gap, and the limit.
use Rattle.std.proofs.Common.{◌∙◌, arith, sym, subst, true≢false}
use Rattle.av_simple.specs.Searched.{EndsEmpty}
use Rattle.av_simple.proofs.Searches.{searched_start, searched_more, settled_found, unsettled_found}
use Rattle.av_simple.proofs.by_length.search.Goals as goal

pub loop-m-init : goal.loop-m-init
loop-m-init c = searched_start _ _ _ c.in_ok-kept.ensures c.new-levels.ensures.items

pub new-requires : goal.new-requires
new-requires c =
    let grew = rw c.if-is_err.ensures.negation at c.push.ensures.items in
    settled_found _ _ _ _ _ c.args.limit c.loop-m.m c.loop-m.invariant c.in_ok-words.ensures grew c.requires.low c.requires.high (omega arith)
    (subst EndsEmpty c.deref-in-loop-m.ensures.value (c.ends_empty.ensures.0 c.if-ends_empty.true))

pub loop-m-preserved : goal.loop-m-preserved
loop-m-preserved c =
    let grew = rw c.if-is_err.ensures.negation at c.push.ensures.items in
    searched_more _ _ _ _ _ c.args.limit c.loop-m.m c.loop-m.invariant c.in_ok-words.ensures grew
    (λ q. absurd (true≢false (sym (c.ends_empty.ensures.1 (subst EndsEmpty (sym c.deref-in-loop-m.ensures.value) q)) ∙ c.if-ends_empty.false)))

pub new-requires-2 : goal.new-requires-2
new-requires-2 c = unsettled_found _ _ _ c.args.limit c.loop-m.m c.loop-m.invariant c.requires.low c.requires.high (omega arith)
