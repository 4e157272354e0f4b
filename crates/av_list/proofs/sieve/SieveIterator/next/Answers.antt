-- An item on which the closure answers false is passed over.
use Rattle.std.proofs.Common.{◌++◌, ◌∷◌, [], false, subst}
use Rattle.std.specs.Fn.{FnReturnsAt}
use Rattle.av_list.proofs.Sieved.{passed_more, passed_all, gone_more}
use Rattle.av_list.proofs.sieve.SieveIterator.next.Goals as goal

pub walk-preserved : goal.walk-preserved
walk-preserved g c = record {
  keep = c.walk.invariant.keep;
  callable = c.walk.invariant.callable;
  gone = c.walk.invariant.gone ++ (c.in-Some.rank, c.in-Some.word) ∷ [];
  whole = gone_more c.args.self.now.lister c.walk.invariant.gone c.walk.self.lister c.next.new.self c.in-Some.rank c.in-Some.word c.walk.invariant.whole c.in-Some.ensures.steps;
  passed = passed_more (λ x b. FnReturnsAt g.F.Fn c.args.self.now.keep x b) c.walk.invariant.gone c.in-Some.rank c.in-Some.word c.walk.invariant.passed
      (subst (λ k. FnReturnsAt g.F.Fn k c.in-Some.word false) c.walk.invariant.keep (subst (λ b. FnReturnsAt g.F.Fn c.walk.self.keep c.in-Some.word b) c.if-kept.false c.asked-kept.ensures));
}

pub returns-clause-steps : goal.returns-clause-steps
returns-clause-steps g c =
    ((c.in_default.ensures.steps.1, passed_all (λ x b. FnReturnsAt g.F.Fn c.args.self.now.keep x b) c.args.self.now.lister c.walk.invariant.gone c.walk.self.lister c.walk.invariant.whole c.in_default.ensures.steps.0 c.walk.invariant.passed), c.walk.invariant.keep)
