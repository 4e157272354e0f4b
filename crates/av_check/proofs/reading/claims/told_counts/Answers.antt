-- Where the line of the numbers of equations and terms is wrong, that line is the first fault.
use Rattle.av_check.proofs.Taking.{stops_at_counts}
use Rattle.av_check.proofs.reading.claims.told_counts.Goals as goal

pub returns-in-None : goal.returns-in-None
returns-in-None c =
    let none = rw c.in-None.is at c.in_ok-counts.ensures in
    stops_at_counts c.args.lines.now c.pass_over.new.lines c.pass_over-2.new.lines c.counts_line.new.lines c.pass_over.ensures c.pass_over-2.ensures none
