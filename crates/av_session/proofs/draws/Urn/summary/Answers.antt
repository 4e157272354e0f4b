-- A turn of the loop over the draws, and its end.
use Rattle.std.proofs.Common.{ap, ◌∙◌, arith}
use Rattle.av_sys.specs.TreeLists.{members}
use Rattle.av_session.specs.Drawing.{draws, drawn_values}
use Rattle.av_session.proofs.SeedDraws.{summary_first, summary_next, summary_end}
use Rattle.av_session.proofs.draws.Urn.summary.Goals as goal

pub loop-d-init : goal.loop-d-init
loop-d-init c = record {
  before = summary_first c.args.kind (members c.args.self.now.system.now c.args.self.now.n) c.args.seed c.args.many c.value-first.result c.of-summary.result (omega arith)
      (rw c.new-drawer.ensures at c.value-first.ensures.value) c.of-summary.ensures;
  seed = ap (λ x. x.seed) c.value-first.ensures.moved ∙ ap (λ x. x.seed) c.new-drawer.ensures;
  made = let e = ap (λ x. x.made) c.value-first.ensures.moved in let f = ap (λ x. x.made) c.new-drawer.ensures in omega arith;
  few = let e = ap (λ s. s.total) c.of-summary.ensures in omega arith;
}

pub loop-d-preserved : goal.loop-d-preserved
loop-d-preserved c = record {
  before = summary_next c.args.kind (members c.args.self.now.system.now c.args.self.now.n) c.args.seed c.loop-d.d c.args.many c.value.result _ c.loop-d.summary c.with-summary.result (omega (arith, c.loop-d-test.true))
      (rw (c.loop-d.invariant.seed, c.loop-d.invariant.made) at c.value.ensures.value) c.with-summary.ensures.least c.with-summary.ensures.most c.with-summary.ensures.total c.loop-d.invariant.before;
  seed = ap (λ x. x.seed) c.value.ensures.moved ∙ c.loop-d.invariant.seed;
  made = let e = ap (λ x. x.made) c.value.ensures.moved in omega (arith, c.loop-d.invariant.made);
  few = omega (arith, c.with-summary.ensures.total, c.value.ensures.few, c.loop-d.invariant.few);
}

pub returns : goal.returns
returns c =
    summary_end c.args.kind (members c.args.self.now.system.now c.args.self.now.n) c.args.seed c.loop-d.d c.args.many (drawn_values c.args.kind (draws (members c.args.self.now.system.now c.args.self.now.n) c.args.seed c.args.many)) c.loop-d.summary
    (omega (arith, c.loop-d-test.false)) c.loop-d.invariant.before
