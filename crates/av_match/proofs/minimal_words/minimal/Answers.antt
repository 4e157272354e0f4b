-- A word is kept where it is minimal.
use Rattle.std.proofs.Common.{arith, sym, ◌∙◌, ap}
use Rattle.std.specs.BTreeSet.{insert_key}
use Rattle.std.specs.Result.{is_ok}
use Rattle.av_perm.specs.Word.{shortlex}
use Rattle.av_match.proofs.Gathered.{has_no_shorter, is_minimal_of, minimal_shorter, kept_more, kept_same, at_ok}
use Rattle.av_match.proofs.minimal_words.minimal.Goals as goal

pub loop-i-preserved-in_ok-map_err : goal.loop-i-preserved-in_ok-map_err
loop-i-preserved-in_ok-map_err c =
    let inserted = at_ok _ c.insert.result (sym c.map_err.ensures.variant ∙ ap is_ok c.in_ok-map_err.was) c.insert.ensures.keys in
    kept_more has_no_shorter is_minimal_of minimal_shorter
    c.args.words.now c.loop-i.kept.keys c.insert.new.self.keys c.loop-i.i c.get-word.result.now c.len-i.ensures.words (omega arith) c.get-word.ensures
    (sym c.is_minimal.ensures ∙ c.if-is_minimal.true) c.loop-i.invariant (inserted ∙ ap (insert_key shortlex c.loop-i.kept.keys) c.copy.ensures)

pub loop-i-preserved : goal.loop-i-preserved
loop-i-preserved c =
    kept_same has_no_shorter is_minimal_of minimal_shorter
    c.args.words.now c.loop-i.kept.keys c.loop-i.i c.get-word.result.now c.len-i.ensures.words (omega arith) c.get-word.ensures
    (sym c.is_minimal.ensures ∙ c.if-is_minimal.false) c.loop-i.invariant
