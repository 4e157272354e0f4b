-- A turn of the loop over the draws, and its ends.
use Rattle.std.proofs.Common.{ap, ◌∙◌, subst, arith}
use Rattle.av_sys.specs.TreeLists.{members}
use Rattle.av_print.proofs.Written.{AppendsUpTo, up_to_start}
use Rattle.av_session.specs.Answers.{draws_text}
use Rattle.av_session.proofs.SeedDraws.{draws_all, draws_turn, draws_fault, draws_end}
use Rattle.av_session.proofs.draws.DrawnRowsText.put_on.Goals as goal

pub loop-d-init : goal.loop-d-init
loop-d-init g c = record {
  written = subst (AppendsUpTo (g.K.Sink.held c.args.sink.now) (g.K.Sink.held c.args.sink.now) (draws_text c.args.self.now.urn.system.now c.args.self.now.urn.n c.args.self.now.seed c.args.self.now.many))
      (draws_all c.args.self.now.urn.system.now c.args.self.now.urn.n c.args.self.now.seed c.args.self.now.many)
      (up_to_start (g.K.Sink.held c.args.sink.now) (draws_text c.args.self.now.urn.system.now c.args.self.now.urn.n c.args.self.now.seed c.args.self.now.many));
  seed = ap (λ x. x.seed) c.new-drawer.ensures;
  made = ap (λ x. x.made) c.new-drawer.ensures;
  faults = omega arith;
  wants = omega arith;
}

pub returns-in_err-put_on-clause-part : goal.returns-in_err-put_on-clause-part
returns-in_err-put_on-clause-part g c =
    let ws = members c.args.self.now.urn.system.now c.args.self.now.urn.n in
    draws_fault ws c.args.self.now.seed c.loop-d.d c.args.self.now.many _ _ _ _ _ _ (omega (arith, c.loop-d-test.true))
    (rw (c.loop-d.invariant.seed, c.loop-d.invariant.made) at c.draw-drawn.ensures.rank) (rw (c.loop-d.invariant.seed, c.loop-d.invariant.made) at c.draw-drawn.ensures.word)
    c.loop-d.invariant.written c.put_on.ensures.part

pub loop-d-preserved : goal.loop-d-preserved
loop-d-preserved g c =
    let ws = members c.args.self.now.urn.system.now c.args.self.now.urn.n in
    record {
      written = draws_turn ws c.args.self.now.seed c.loop-d.d c.args.self.now.many _ _ _ _ _ _ (omega (arith, c.loop-d-test.true))
          (rw (c.loop-d.invariant.seed, c.loop-d.invariant.made) at c.draw-drawn.ensures.rank) (rw (c.loop-d.invariant.seed, c.loop-d.invariant.made) at c.draw-drawn.ensures.word)
          c.loop-d.invariant.written c.in_ok-put_on.ensures.whole;
      seed = ap (λ x. x.seed) c.draw-drawn.ensures.moved ∙ c.loop-d.invariant.seed;
      made = let e = ap (λ x. x.made) c.draw-drawn.ensures.moved in omega (arith, c.loop-d.invariant.made);
      faults = omega arith;
      wants = omega arith;
    }

pub returns-clause-whole : goal.returns-clause-whole
returns-clause-whole g c =
    draws_end (members c.args.self.now.urn.system.now c.args.self.now.urn.n) c.args.self.now.seed c.loop-d.d c.args.self.now.many _ _ _ (omega (arith, c.loop-d-test.false)) c.loop-d.invariant.written
