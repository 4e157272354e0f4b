-- The spans lie in the word.
use Rattle.std.proofs.Common.{length, sym, subst}
use Rattle.av_interval.specs.Intervals.{Tiles}
use Rattle.av_decomp.proofs.SpanNumbers.{span_within}
use Rattle.av_tree.proofs.blocks.blocks_of.Goals as goal

pub block-requires-clause-low : goal.block-requires-clause-low
block-requires-clause-low c =
    (span_within c.as_slice-span-items.result.now 1 (length c.args.word.now) c.loop-span.span-index (subst (Tiles 1 (length c.args.word.now)) (sym c.as_slice-span-items.ensures) c.requires.cover) c.loop-span-test.true).0

pub block-requires-clause-order : goal.block-requires-clause-order
block-requires-clause-order c =
    (span_within c.as_slice-span-items.result.now 1 (length c.args.word.now) c.loop-span.span-index (subst (Tiles 1 (length c.args.word.now)) (sym c.as_slice-span-items.ensures) c.requires.cover) c.loop-span-test.true).1

pub block-requires-clause-high : goal.block-requires-clause-high
block-requires-clause-high c =
    (span_within c.as_slice-span-items.result.now 1 (length c.args.word.now) c.loop-span.span-index (subst (Tiles 1 (length c.args.word.now)) (sym c.as_slice-span-items.ensures) c.requires.cover) c.loop-span-test.true).2
