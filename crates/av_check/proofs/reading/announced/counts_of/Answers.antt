-- The line of the numbers of equations and terms is cut at blanks.
use Rattle.std.proofs.Common.{ap, ◌∙◌}
use Rattle.av_check.proofs.Loops.{bytes}
use Rattle.av_check.proofs.ReadAs.{reads_as}
use Rattle.av_check.proofs.TokenLines.{counts_same}
use Rattle.av_check.proofs.reading.announced.counts_of.Goals as goal

pub returns : goal.returns
returns c =
    reads_as (counts_same c.args.line.now (bytes c.deref.result.now) (ap bytes c.deref.ensures.value ∙ c.in_ok-tokens.ensures))
    c.counts_among.result c.counts_among.ensures
