-- The entries from `start` on fall to the end, and still do with a greater entry before them.
use Rattle.std.proofs.Common.{◌-◌, arith, length}
use Rattle.av_perm.proofs.DescentTests.{descends_last, descends_more}
use Rattle.av_perm.proofs.lex.last_descent.Goals as goal

pub loop-start-init : goal.loop-start-init
loop-start-init c = record { within = omega arith; descends = descends_last c.args.entries.now (length c.args.entries.now - 1) (omega arith) }

pub loop-start-preserved : goal.loop-start-preserved
loop-start-preserved c = record {
  within = omega arith;
  descends = descends_more c.args.entries.now c.loop-start.start (c.loop-start.start - 1) (omega arith) c.loop-start.invariant.within c.if-entries-start.true c.loop-start.invariant.descends;
}
