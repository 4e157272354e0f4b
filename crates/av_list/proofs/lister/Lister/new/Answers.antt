-- The tree that is placed is the entry of the rank asked for, or there is none.
use Rattle.std.proofs.Common.{◌≡◌, ◌≤◌, ◌∙◌, [], arith, subst, drop}
use Rattle.av_sys.specs.Terms.{IsWellFormed}
use Rattle.av_sys.specs.TreeLists.{count_at}
use Rattle.av_list.specs.Remaining.{left, listed}
use Rattle.av_list.specs.Derivations.{Derives}
use Rattle.av_list.proofs.Listings.{begun, begun_items}
use Rattle.av_list.proofs.lister.Lister.new.Goals as goal

pub place_entry-more-requires-clause-formed : goal.place_entry-more-requires-clause-formed
place_entry-more-requires-clause-formed c = subst IsWellFormed c.requires.stands c.largest-largest.ensures.formed

pub invariant_of-result : goal.invariant_of-result
invariant_of-result c =
    let size = c.in_ok-derivation.ensures.0 in
    begun c.args.system.now c.args.table.now c.args.n c.args.from c.place_entry-more.new.derivation c.place_entry-more.result (subst IsWellFormed c.requires.stands c.largest-largest.ensures.formed) c.requires.stands c.requires.least c.requires.most
    (omega (arith, c.requires.most, c.largest-largest.ensures.value, c.largest-largest.ensures.most)) (c.place_entry-more.ensures.size ∙ size)
    (λ e. subst (λ z. left c.args.system.now c.place_entry-more.new.derivation.placed [] ≡ drop c.args.from (listed c.args.system.now 0 z)) size (c.place_entry-more.ensures.same e))
    c.place_entry-more.ensures.due
    (λ e. subst (λ z. Derives c.args.system.now z c.place_entry-more.new.derivation.placed []) size (c.place_entry-more.ensures.derives e))

pub returns : goal.returns
returns c =
    let size = c.in_ok-derivation.ensures.0 in
    begun_items c.args.system.now c.args.n c.place_entry-more.new.derivation.size c.args.from c.place_entry-more.result (c.place_entry-more.ensures.size ∙ size)
    (λ e. subst (λ z. count_at c.args.system.now 0 z ≤ c.args.from) size (c.place_entry-more.ensures.none e))
