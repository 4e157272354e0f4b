-- The item of the entry that is placed, and then those from the next entry on.
use Rattle.std.proofs.Common.{◌≡◌, ◌+◌, ◌^◌, ℕ, List, [], ◌∷◌, cond, drop, sym, subst, ap, ap₂, ◌∙◌, arith, rules}
use Rattle.av_sys.specs.TreeLists.{members}
use Rattle.av_list.specs.Items.{items_from}
use Rattle.av_list.specs.Listing.{IsListing}
use Rattle.av_list.proofs.Listings.{entry_word, entry_some, next_items, last_item, advanced}
use Rattle.av_list.proofs.lister.ListerIterator.next.Goals as goal

pub word-word-requires-clause-word : goal.word-word-requires-clause-word
word-word-requires-clause-word c =
    let l = c.self.inside in
    entry_word l.system.now c.self.invariant.formed l.derivation.size l.rank l.derivation.placed c.self.invariant.limit (c.self.invariant.placed c.if-not-self.false).entry

pub advance-self-inside-requires-clause-some : goal.advance-self-inside-requires-clause-some
advance-self-inside-requires-clause-some c =
    let l = c.self.inside in
    entry_some l.system.now c.self.invariant.formed l.derivation.size l.rank l.derivation.placed (c.self.invariant.placed c.if-not-self.false).entry

pub invariant_of-self-in-Some : goal.invariant_of-self-in-Some
invariant_of-self-in-Some c =
    let l = c.self.inside in
    let a = c.advance-self-inside in
    advanced l.system.now l.table.now l.derivation a.new.derivation l.rank c.in-Some.next a.result
    (subst (IsListing c.self.inside.system.now c.self.inside.table.now c.self.inside.derivation c.self.inside.rank) c.if-not-self.false c.self.invariant)
    (sym c.in-Some.ensures.1) a.ensures.size a.ensures.same a.ensures.due a.ensures.derives

pub returns-in-None-clause-steps : goal.returns-in-None-clause-steps
returns-in-None-clause-steps c =
    let l = c.self.inside in
    let last : l.rank + 1 ≡ 2 ^ 128 = omega (arith, c.in-None.ensures, c.self.ranges) in
    sym c.self.view_is
    ∙ ap (λ b. cond b (items_from c.self.inside.rank (drop c.self.inside.rank (members c.self.inside.system.now c.self.inside.derivation.size))) []) c.if-not-self.false
    ∙ last_item l.system.now c.self.invariant.formed l.derivation.size l.rank l.derivation.placed last (c.self.invariant.placed c.if-not-self.false).entry
    ∙ ap (λ (w : List ℕ). (c.self.inside.rank, w) ∷ []) (sym c.word-word.ensures)

pub returns-in-None-clause-goes : goal.returns-in-None-clause-goes
returns-in-None-clause-goes c = let e = returns-in-None-clause-steps c in search rules

pub returns-in-Some-clause-steps : goal.returns-in-Some-clause-steps
returns-in-Some-clause-steps c =
    let l = c.self.inside in
    let a = c.advance-self-inside in
    sym c.self.view_is
    ∙ ap (λ b. cond b (items_from c.self.inside.rank (drop c.self.inside.rank (members c.self.inside.system.now c.self.inside.derivation.size))) []) c.if-not-self.false
    ∙ next_items l.system.now c.self.invariant.formed l.derivation.size l.rank c.in-Some.next l.derivation.placed a.result (sym c.in-Some.ensures.1) (omega (arith, c.in-Some.ensures.0)) (c.self.invariant.placed c.if-not-self.false).entry a.ensures.none
    ∙ ap₂ (λ (w : List ℕ) (n : ℕ). (c.self.inside.rank, w) ∷ cond c.advance-self-inside.result (items_from c.in-Some.next (drop c.in-Some.next (members c.self.inside.system.now n))) [])
    (sym c.word-word.ensures) (sym a.ensures.size)

pub returns-in-Some-clause-goes : goal.returns-in-Some-clause-goes
returns-in-Some-clause-goes c = let e = returns-in-Some-clause-steps c in search rules
