-- The lines before the system, up to the first that is not as demanded.
use Rattle.av_check.proofs.Taking.{stops_at_basis, takes_first}
use Rattle.av_check.proofs.reading.claims.told_front.Goals as goal

pub returns-in_default : goal.returns-in_default
returns-in_default c =
    let none = rw c.in_default.is at c.in_ok-basis.ensures in
    stops_at_basis c.args.lines.now c.pass_known.new.lines c.pass_over.new.lines c.words_line.new.lines c.pass_known.ensures c.pass_over.ensures none

pub returns : goal.returns
returns c =
    let told = rw c.in-Some.is at c.in_ok-basis.ensures in
    takes_first c.in-Some.basis c.in_ok-require.require c.args.lines.now c.pass_known.new.lines c.pass_over.new.lines c.words_line.new.lines c.words_line-2.new.lines
    c.pass_known.ensures c.pass_over.ensures told c.in_ok-require.ensures
