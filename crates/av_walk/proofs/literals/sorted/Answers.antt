-- The next word.
use Rattle.std.proofs.Common.{◌∙◌, sym, ap, arith}
use Rattle.std.specs.BTreeSet.{insert_key}
use Rattle.std.specs.Result.{is_ok}
use Rattle.av_perm.specs.Word.{shortlex}
use Rattle.av_match.proofs.Gathered.{at_ok}
use Rattle.av_split.proofs.RowWalks.{sorted_next}
use Rattle.av_walk.proofs.literals.sorted.Goals as goal

pub loop-i-preserved : goal.loop-i-preserved
loop-i-preserved c =
    let inserted = at_ok _ c.insert.result (sym c.map_err.ensures.variant ∙ ap is_ok c.in_ok-map_err.was) c.insert.ensures.keys in
    sorted_next c.as_slice-items.result.now c.loop-i.set.keys c.insert.new.self.keys c.loop-i.i c.index-items-i.result (omega (arith, c.loop-i-test.true)) (omega (arith, c.loop-i-test.true, c.loop-i.auto.i)) c.index-items-i.is
    c.loop-i.invariant (inserted ∙ ap (insert_key shortlex c.loop-i.set.keys) c.copy.ensures)
