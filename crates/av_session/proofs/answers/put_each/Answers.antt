-- A turn of the loop over the queries, and what is held at each end.
use Rattle.std.proofs.Common.{List, ◌++◌, flat_map, All, sym, ap, subst, arith}
use Rattle.std.proofs.lemmas.List.{drop_all}
use Rattle.av_io.specs.Mem.{SureSinkState}
use Rattle.av_text.specs.declared.queries.Query.{Query}
use Rattle.av_print.proofs.Written.{AppendsUpTo, up_to_start, up_to_part, up_to_next, up_to_end}
use Rattle.av_print.proofs.WaitingTexts.{up_to_passed}
use Rattle.av_session.specs.Answers.{answer_text, length_needed}
use Rattle.av_session.specs.Serving.{Serves}
use Rattle.av_session.proofs.WaitingLines.{item_waits, item_fails}
use Rattle.av_session.proofs.answers.put_each.Goals as goal

pub loop-query-init : goal.loop-query-init
loop-query-init g c = record {
  written = subst (λ (s : SureSinkState). AppendsUpTo (g.K.Sink.held c.args.sink.now) (g.K.Sink.held c.args.sink.now) (flat_map (answer_text c.args.class.now) c.args.queries.now) (s.held ++ flat_map (answer_text c.args.class.now) c.as_slice-query-items.result.now))
      (sym c.new-waiting.ensures)
      (subst (λ (qs : List Query). AppendsUpTo (g.K.Sink.held c.args.sink.now) (g.K.Sink.held c.args.sink.now) (flat_map (answer_text c.args.class.now) c.args.queries.now) (flat_map (answer_text c.args.class.now) qs))
      (sym c.as_slice-query-items.ensures.value) (up_to_start (g.K.Sink.held c.args.sink.now) (flat_map (answer_text c.args.class.now) c.args.queries.now)));
  faults = omega arith;
}

pub put_answer-requires-clause-serves : goal.put_answer-requires-clause-serves
put_answer-requires-clause-serves g c =
    let all = subst (All (λ q. Serves c.args.class.now.system (length_needed q) c.args.table.now)) (sym c.as_slice-query-items.ensures.value) c.requires in
    subst (λ q. Serves c.args.class.now.system (length_needed q) c.args.table.now) (sym c.query-item.is) (all c.loop-query.query-index c.query-item.result c.loop-query-test.true)

pub returns-in_err-put_answer-clause-part : goal.returns-in_err-put_answer-clause-part
returns-in_err-put_answer-clause-part g c =
    item_fails (answer_text c.args.class.now) c.as_slice-query-items.result.now c.loop-query.query-index c.query-item.result _ _ _ _ _
    c.loop-query-test.true c.query-item.is c.loop-query.invariant.written c.in_err-put_answer.ensures.part

pub loop-query-preserved : goal.loop-query-preserved
loop-query-preserved g c = record {
  written = item_waits (answer_text c.args.class.now) c.as_slice-query-items.result.now c.loop-query.query-index c.query-item.result _ _ _ _ _ _
      c.loop-query-test.true c.query-item.is c.loop-query.invariant.written c.in_ok-put_answer.ensures.whole;
  faults = omega (arith, c.loop-query.invariant.faults, c.in_ok-put_answer.ensures.later);
}

pub returns-in_err-pass_on-clause-part : goal.returns-in_err-pass_on-clause-part
returns-in_err-pass_on-clause-part g c = up_to_part _ _ _ _ (up_to_passed _ _ _ _ _ _ _ c.loop-query.invariant.written c.in_err-pass_on.ensures.passed)

pub returns-clause-part : goal.returns-clause-part
returns-clause-part g c = up_to_part _ _ _ _ (up_to_passed _ _ _ _ _ _ _ c.loop-query.invariant.written c.in_ok-pass_on.ensures.passed)

pub returns-clause-whole : goal.returns-clause-whole
returns-clause-whole g c =
    up_to_end _ _ _ _ (up_to_next _ _ _ _ _ _ c.loop-query.invariant.written c.in_ok-pass_on.ensures.whole)
    (ap (flat_map (answer_text c.args.class.now)) (drop_all c.loop-query.query-index c.as_slice-query-items.result.now (omega (arith, c.loop-query-test.false))))
