-- A turn of the loop over the members that the sieve gives, and its ends.
use Rattle.std.proofs.Common.{sym, ◌∙◌, subst, arith}
use Rattle.std.specs.Fn.{FnReturnsAt}
use Rattle.av_session.specs.Answers.{Tells}
use Rattle.av_session.proofs.WaitingLines.{kept_waits, kept_fails, kept_none, passed_to}
use Rattle.av_session.proofs.statistics.put_kept.Goals as goal

pub rows-preserved : goal.rows-preserved
rows-preserved g c = record {
  written = λ p told.
      kept_waits (FnReturnsAt g.F.Fn c.rows.sieve.keep) p c.rows.sieve.lister c.next.new.self.lister (c.in-Some.rank, c.in-Some.word) _ _ _ _ _ _
      (subst (λ k. Tells (FnReturnsAt g.F.Fn k) p) (sym c.rows.invariant.keep) told)
      c.in-Some.ensures.steps.0 (c.rows.invariant.written p told) c.in_ok-put_text.ensures.whole;
  faults = omega (arith, c.rows.invariant.faults, c.in_ok-put_text.ensures.later);
  keep = c.in-Some.ensures.steps.1 ∙ c.rows.invariant.keep;
}

pub returns-in_err-put_text-clause-part : goal.returns-in_err-put_text-clause-part
returns-in_err-put_text-clause-part g c = λ p told.
    kept_fails (FnReturnsAt g.F.Fn c.rows.sieve.keep) p c.rows.sieve.lister c.next.new.self.lister (c.in-Some.rank, c.in-Some.word) _ _ _ _ _
    (subst (λ k. Tells (FnReturnsAt g.F.Fn k) p) (sym c.rows.invariant.keep) told)
    c.in-Some.ensures.steps.0 (c.rows.invariant.written p told) c.in_err-put_text.ensures.part

pub returns-clause-whole : goal.returns-clause-whole
returns-clause-whole g c = λ p told.
    passed_to _ _ _ _ _ (c.rows.invariant.written p told)
    (kept_none (FnReturnsAt g.F.Fn c.rows.sieve.keep) p c.rows.sieve.lister c.next.new.self.lister (subst (λ k. Tells (FnReturnsAt g.F.Fn k) p) (sym c.rows.invariant.keep) told) c.in_default.ensures.steps.0)
