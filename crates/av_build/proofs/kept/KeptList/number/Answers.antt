-- Where a number isn't found its place is past the end.
use Rattle.std.proofs.Common.{◌∙◌, nat_eq, ap, sym}
use Rattle.av_build.specs.Lean.{place_of}
use Rattle.av_build.proofs.PruneSteps.{position_none}
use Rattle.av_build.proofs.kept.KeptList.number.Goals as goal

pub returns-in-None-clause-value : goal.returns-in-None-clause-value
returns-in-None-clause-value c =
    c.len.ensures.len
    ∙ position_none (nat_eq c.old.inside.0) c.self.inside.numbers.keys (sym c.in-None.ensures.index)
    ∙ ap (λ found. place_of found c.old.inside.0) c.self.view_is
    ∙ ap (place_of c.args.self.now) c.old.view_is
