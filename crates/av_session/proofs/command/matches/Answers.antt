-- The command is simple, so clap's contract says what it finds and when it refuses.
use Rattle.std.proofs.Common.{◌≡◌, ◌∙◌, ap, refl, subst, map, string_bytes, true}
use Rattle.std.proofs.lemmas.Result.{IfOk-weaker}
use Rattle.clap.specs.Simple.{HasMatchesOf, app_of, is_simple, matches_of}
use Rattle.clap.specs.Faults.{fault_of, is_simple_and_free}
use Rattle.clap.specs.Kinds.{FailsBy}
use Rattle.clap.specs.Walk.{rows_of}
use Rattle.clap.specs.Matches.{found_of}
use Rattle.clap.proofs.OnLiterals.{clap_on_literals}
use Rattle.av_session.specs.Command.{permspec}
use Rattle.av_session.proofs.command.matches.Goals as goal

simple : is_simple permspec ≡ true
unfolding clap_on_literals
simple = refl

free : is_simple_and_free permspec ≡ true
unfolding clap_on_literals
free = refl

pub returns-clause-rows : goal.returns-clause-rows
returns-clause-rows c =
    let e = c.in_ok-command.ensures in
    let parse = c.try_get_matches_from in
    let words = map string_bytes c.args.words.now in
    IfOk-weaker parse.result (HasMatchesOf (app_of c.in_ok-command.field-0) words) (λ m. rows_of (found_of m) ≡ matches_of permspec words)
    (λ m h. (h (ap is_simple e ∙ simple)).0 ∙ ap (λ a. matches_of a words) e) parse.ensures.matches

pub returns-clause-kinds : goal.returns-clause-kinds
returns-clause-kinds c =
    let e = c.in_ok-command.ensures in
    subst (λ a. FailsBy (fault_of a (map string_bytes c.args.words.now)) c.try_get_matches_from.result) e (c.try_get_matches_from.ensures.kinds (ap is_simple_and_free e ∙ free))
