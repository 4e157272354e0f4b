-- Nothing sought grows from a partial overlay that contains an earlier word, or has a place to spare.
use Rattle.std.proofs.Common.{sym, ◌∙◌}
use Rattle.av_union.proofs.Unions.{some_from}
use Rattle.av_union.proofs.Sought.{early_nothing, spare_nothing}
use Rattle.av_union.proofs.gathering.grows_nothing.Goals as goal

pub returns-then-contains_some : goal.returns-then-contains_some
returns-then-contains_some c = λ t G.
    let x = c.args.partial.now in
    early_nothing c.args.early.now c.args.first.now G x.word x.places.items (some_from x.word c.args.early.now (sym c.contains_some.ensures ∙ t))

pub returns-else-contains_some : goal.returns-else-contains_some
returns-else-contains_some c = λ t G.
    let x = c.args.partial.now in
    spare_nothing c.args.early.now c.args.first.now G x.word x.places.items x.placed (c.has_spare.ensures t)
