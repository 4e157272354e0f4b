-- An equation is its line cut at blanks.
use Rattle.std.proofs.Common.{ap, ◌∙◌}
use Rattle.av_check.proofs.Loops.{bytes}
use Rattle.av_check.proofs.ReadAs.{reads_ok_as}
use Rattle.av_check.proofs.TokenLines.{equation_same}
use Rattle.av_check.proofs.reading.equations.equation_of.Goals as goal

pub returns : goal.returns
returns c =
    reads_ok_as (equation_same c.args.count c.args.number c.args.line.now (bytes c.deref.result.now) (ap bytes c.deref.ensures.value ∙ c.in_ok-tokens.ensures))
    c.equation_among.result c.equation_among.ensures
