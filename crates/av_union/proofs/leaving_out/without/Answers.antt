-- The entries that are left differ, and their pattern is what is left of the word.
use Rattle.std.proofs.Common.{ap, ◌∙◌, arith}
use Rattle.av_perm.specs.Relations.{pattern_of}
use Rattle.av_union.proofs.LeavingPlaces.{copied_removed, removed_distinct}
use Rattle.av_union.proofs.leaving_out.without.Goals as goal

pub pattern_of-requires-clause-different : goal.pattern_of-requires-clause-different
pattern_of-requires-clause-different c =
    removed_distinct c.args.word.now c.as_slice.result.now c.args.place c.len-word.ensures.word c.requires.place
    (copied_removed c.args.word.now c.as_slice-entry-items.result.now c.loop-entry.values.items c.remove.new.self.items c.as_slice.result.now c.loop-entry.entry-index c.args.place
    c.as_slice-entry-items.ensures (omega (arith, c.loop-entry-test.false)) c.loop-entry.invariant c.remove.ensures.items c.as_slice.ensures.value)

pub returns : goal.returns
returns c =
    c.pattern_of.ensures
    ∙ ap pattern_of (copied_removed c.args.word.now c.as_slice-entry-items.result.now c.loop-entry.values.items c.remove.new.self.items c.as_slice.result.now c.loop-entry.entry-index c.args.place
    c.as_slice-entry-items.ensures (omega (arith, c.loop-entry-test.false)) c.loop-entry.invariant c.remove.ensures.items c.as_slice.ensures.value)
