-- The set takes the word where it is minimal.
use Rattle.std.proofs.Common.{sym, ◌∙◌, ap, true≢false}
use Rattle.std.specs.Result.{is_ok}
use Rattle.av_match.proofs.Gathered.{at_ok}
use Rattle.av_union.proofs.Kept.{keeps_one, keeps_none}
use Rattle.av_union.proofs.gathering.keep.Goals as goal

pub returns-in_ok-map_err : goal.returns-in_ok-map_err
returns-in_ok-map_err c =
    let inserted = at_ok _ c.insert.result (sym c.map_err.ensures.variant ∙ ap is_ok c.in_ok-map_err.was) c.insert.ensures.keys in
    keeps_one c.args.first.now c.args.second.now c.args.word.now c.copy.result c.args.kept.now.keys c.insert.new.self.keys
    (c.is_minimal.ensures.0 c.if-is_minimal.true) c.copy.ensures inserted

pub returns-else-is_minimal : goal.returns-else-is_minimal
returns-else-is_minimal c =
    keeps_none c.args.first.now c.args.second.now c.args.word.now c.args.kept.now.keys (λ m. true≢false (sym (c.is_minimal.ensures.1 m) ∙ c.if-is_minimal.false))
