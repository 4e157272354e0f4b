-- The numbers are the doubled entries with an odd one among them; they differ, and their pattern is the word with the entry.
use Rattle.std.proofs.Common.{◌≡◌, true, List, ℕ, ap, sym, ◌∙◌, subst, arith}
use Rattle.av_perm.specs.Word.{is_distinct}
use Rattle.av_perm.specs.Relations.{pattern_of}
use Rattle.av_union.proofs.InsertedEntries.{made_spread, spread_distinct}
use Rattle.av_union.proofs.partials.inserted.Goals as goal

pub pattern_of-requires-clause-different : goal.pattern_of-requires-clause-different
pattern_of-requires-clause-different c =
    let made = made_spread c.args.word.now c.as_slice-entry-items.result.now c.loop-entry.values.items c.insert.new.self.items c.as_slice.result.now c.loop-entry.entry-index
    c.args.place c.args.below c.as_slice-entry-items.ensures (omega (arith, c.loop-entry-test.false)) c.loop-entry.invariant c.insert.ensures.items c.as_slice.ensures.value in
    subst (λ (l : List ℕ). is_distinct l ≡ true) (sym made) (spread_distinct c.args.word.now c.args.place c.args.below c.len-word.ensures.word c.requires.place)

pub returns : goal.returns
returns c =
    let made = made_spread c.args.word.now c.as_slice-entry-items.result.now c.loop-entry.values.items c.insert.new.self.items c.as_slice.result.now c.loop-entry.entry-index
    c.args.place c.args.below c.as_slice-entry-items.ensures (omega (arith, c.loop-entry-test.false)) c.loop-entry.invariant c.insert.ensures.items c.as_slice.ensures.value in
    c.pattern_of.ensures ∙ ap pattern_of made
