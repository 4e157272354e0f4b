-- The read that failed may have taken some bytes after those that were read.
use Rattle.std.proofs.Common.{ℕ, arith, length-take}
use Rattle.av_session.proofs.Takes.{takes_more}
use Rattle.av_session.proofs.reading.read_all.Goals as goal

pub returns-in_err-count-clause-took : goal.returns-in_err-count-clause-took
returns-in_err-count-clause-took g c =
    let part = c.read_some.ensures.took in
    let fits = part.1 in
    takes_more _ _ _ _ _ part.0 c.reads.invariant.taken part.2 (omega (arith, fits, length-take {A = ℕ}))
