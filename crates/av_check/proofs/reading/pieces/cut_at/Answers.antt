-- The pieces are what stands between separators.
use Rattle.std.proofs.Common.{rules, tests, ◌==◌}
use Rattle.std.proofs.lemmas.Iterator.Consumers.{map_from_collect}
use Rattle.std.proofs.lemmas.Iterator.Splits.{YieldsList-from_slice_split}
use Rattle.av_check.proofs.reading.pieces.cut_at.Goals as goal

pub returns-in-Ok : goal.returns-in-Ok
returns-in-Ok c =
    let k = map_from_collect _ c.collect.ensures.ran
    (YieldsList-from_slice_split _ (λ b. b == c.args.separator) c.args.bytes.now c.split.ensures.rest c.split.ensures.done c.split.ensures.closure (λ x b q k. search (rules, tests))) in
    rw c.in-Ok.is at k
