-- A word is put in where it passes both tests.
use Rattle.std.proofs.Common.{◌≡◌, length, sym, subst, ap, ◌∙◌}
use Rattle.std.specs.Result.{is_ok}
use Rattle.std.proofs.lemmas.Bool.{and_parts, and_from, both_ways}
use Rattle.av_perm.specs.Simple.{is_simple}
use Rattle.av_perm.specs.Class.{avoids_all}
use Rattle.av_perm.specs.Laws.{IsSimpleOf}
use Rattle.av_perm.proofs.PermWords.{perm_word}
use Rattle.av_match.proofs.Gathered.{at_ok}
use Rattle.av_simple.proofs.Levels.{is_simple_of}
use Rattle.av_simple.proofs.Gathering.{gathers_none, gathers_one, tests_to, tests_from}
use Rattle.av_simple.proofs.extension.add_simple.Goals as goal

pub returns-in_ok-map_err : goal.returns-in_ok-map_err
returns-in_ok-map_err c =
    let inserted = at_ok _ c.insert.result (sym c.map_err.ensures.variant ∙ ap is_ok c.in_ok-map_err.was) c.insert.ensures.keys in
    let t = and_parts (is_simple c.args.word) (avoids_all c.args.basis.now c.args.word) (sym c.is_simple_in.ensures ∙ c.if-is_simple_in.true) in
    gathers_one c.args.basis.now c.args.word c.args.found.now.keys c.insert.new.self.keys (tests_to c.args.basis.now c.args.word (perm_word c.args.word c.len-len.ensures.word) t.0 t.1) inserted

pub returns-else-is_simple_in : goal.returns-else-is_simple_in
returns-else-is_simple_in c = gathers_none c.args.basis.now (length c.args.word) (λ w. w ≡ c.args.word) c.args.found.now.keys (λ v q s.
    let t = tests_from c.args.basis.now (length c.args.word) c.args.word (subst (λ u. IsSimpleOf c.args.basis.now (length c.args.word) u) q s) in
    both_ways (is_simple_of c.args.basis.now c.args.word) (sym c.is_simple_in.ensures ∙ c.if-is_simple_in.false)
    (and_from (is_simple c.args.word) (avoids_all c.args.basis.now c.args.word) t.0 t.1))
