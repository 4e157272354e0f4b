-- A turn of the loop over the lengths, and its end.
use Rattle.std.proofs.Common.{subst, arith}
use Rattle.av_print.proofs.Written.{AppendsUpTo, up_to_start}
use Rattle.av_session.specs.Answers.{spaced_count, counts_text}
use Rattle.av_session.proofs.Levels.{texts_one, text_turn, text_fault, text_end}
use Rattle.av_session.proofs.members.CountsToText.put_on.Goals as goal

pub loop-m-init : goal.loop-m-init
loop-m-init g c = record {
  written = subst (AppendsUpTo (g.K.Sink.held c.args.sink.now) (g.K.Sink.held c.args.sink.now) (counts_text c.args.self.now.table.now.system c.args.self.now.largest))
      (texts_one (spaced_count c.args.self.now.table.now.system) c.args.self.now.largest)
      (up_to_start (g.K.Sink.held c.args.sink.now) (counts_text c.args.self.now.table.now.system c.args.self.now.largest));
  faults = omega arith;
  wants = omega arith;
}

pub returns-in_err-put_on-clause-part : goal.returns-in_err-put_on-clause-part
returns-in_err-put_on-clause-part g c =
    text_fault (spaced_count c.args.self.now.table.now.system) c.loop-m.m c.args.self.now.largest _ _ _ _ (omega (arith, c.loop-m-test.true)) c.loop-m.invariant.written
    (rw c.member_count.ensures at c.put_on.ensures.part)

pub loop-m-preserved : goal.loop-m-preserved
loop-m-preserved g c = record {
  written = text_turn (spaced_count c.args.self.now.table.now.system) c.loop-m.m c.args.self.now.largest _ _ _ _ (omega (arith, c.loop-m-test.true)) c.loop-m.invariant.written
      (rw c.member_count.ensures at c.in_ok-put_on.ensures.whole);
  faults = omega arith;
  wants = omega arith;
}

pub returns-clause-whole : goal.returns-clause-whole
returns-clause-whole g c =
    text_end (spaced_count c.args.self.now.table.now.system) c.loop-m.m c.args.self.now.largest _ _ _ (omega (arith, c.loop-m-test.false)) c.loop-m.invariant.written
