-- There is an occurrence exactly where there is a first one.
use Rattle.std.proofs.Common.{sym, ◌∙◌, ap}
use Rattle.std.specs.Option.{is_some}
use Rattle.av_match.proofs.Completed.{contains_first}
use Rattle.av_match.proofs.search.contains.Goals as goal

pub returns : goal.returns
returns c = c.is_some.ensures ∙ ap is_some c.find.ensures ∙ sym (contains_first c.args.word.now c.args.pattern.now)
