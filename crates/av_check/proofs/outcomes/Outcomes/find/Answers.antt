-- What was found is kept.
use Rattle.std.proofs.Common.{sym, ap, ◌∙◌, subst}
use Rattle.std.specs.Map.{lookup}
use Rattle.std.specs.Result.{is_ok}
use Rattle.av_sys.specs.contracts.names.NamePartialEq.TheImpl as names
use Rattle.av_match.proofs.Gathered.{at_ok}
use Rattle.av_check.specs.Outcomes.{AreOutcomes}
use Rattle.av_check.proofs.KeptOutcomes.{found_right, kept_right}
use Rattle.av_check.proofs.outcomes.Outcomes.find.Goals as goal

pub returns-in-Some-clause-found : goal.returns-in-Some-clause-found
returns-in-Some-clause-found c =
    found_right c.args.simples.now c.args.name c.in-Some.found c.args.self.now c.requires.known
    (sym (ap (lookup ((names.eq-value).it c.args.name)) c.self.view_is) ∙ sym c.get.ensures.value ∙ sym c.copied.ensures ∙ c.in-Some.is)

pub returns-clause-known : goal.returns-clause-known
returns-clause-known c =
    let inserted = at_ok _ c.insert.result (sym c.map_err.ensures.variant ∙ ap is_ok c.in_ok-map_err.was) c.insert.ensures.entries in
    subst (AreOutcomes c.args.simples.now) (sym inserted)
    (kept_right c.args.simples.now c.args.name c.in_ok-found.found c.self.inside.found.entries (subst (AreOutcomes c.args.simples.now) (sym c.self.view_is) c.requires.known) c.in_ok-found.ensures)
