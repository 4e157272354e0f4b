-- With nothing placed, all trees are left, and the first tree due is at the rank.
use Rattle.std.proofs.Common.{◌∷◌, sym, ◌∙◌, arith, ap, ap₂, drop}
use Rattle.av_list.specs.Remaining.{left}
use Rattle.av_list.proofs.Listings.{left_start}
use Rattle.av_list.proofs.lister.place_entry.Goals as goal

pub prove-unreachable-requires : goal.prove-unreachable-requires
prove-unreachable-requires c = omega (arith, c.requires.formed.some, c.len-equations.ensures.value, c.if-prove.true)

pub returns-clause-same : goal.returns-clause-same
returns-clause-same c e =
    sym c.complete.ensures.same
    ∙ ap (drop c.args.from) (ap₂ (left c.args.system.now) (c.push_due.ensures.placed ∙ c.requires.placed) (c.push_due.ensures.due ∙ ap₂ (λ n ds. record { equation = 0; size = n } ∷ ds) c.size-size.ensures c.requires.due) ∙ left_start c.args.system.now c.args.derivation.now.size)
