-- A turn of the loop over the items, and its ends.
use Rattle.std.proofs.Common.{◌≡◌, drop, ap, ◌∙◌, arith}
use Rattle.std.specs.Iterator.Adapters.{take_source, take_count}
use Rattle.av_sys.specs.declared.terms.System.{System}
use Rattle.av_sys.specs.TreeLists.{members}
use Rattle.av_list.specs.Items.{items_from}
use Rattle.av_session.proofs.WaitingLines.{lines_start, lines_none, line_waits, line_fails, passed_to}
use Rattle.av_session.proofs.listing.put_rows.Goals as goal

pub loop-rank-init : goal.loop-rank-init
loop-rank-init g c =
    let given : c.into_iter-rank-iterator.result ≡ c.take-rank-items.result = c.into_iter-rank-iterator.ensures.into_iter_gives in
    let items = ap take_source given ∙ c.take-rank-items.ensures.source ∙ c.in_ok-lister.ensures ∙ ap (λ (S : System). items_from c.args.start (drop c.args.start (members S c.args.n))) c.system.ensures.value in
    let many = ap take_count given ∙ c.take-rank-items.ensures.count in
    record {
      written = lines_start c.args.class.now.system c.args.n c.args.start c.args.many (take_count c.into_iter-rank-iterator.result) (take_source c.into_iter-rank-iterator.result)
          (g.K.Sink.held c.args.sink.now) c.args.waiting.now.held items many;
      faults = omega arith;
    }

pub loop-rank-preserved : goal.loop-rank-preserved
loop-rank-preserved g c = record {
  written = line_waits (take_source c.loop-rank.rank-iterator) (take_source c.next.new.self) (c.in-Some.rank, c.in-Some.word) (take_count c.loop-rank.rank-iterator) (take_count c.next.new.self) _ _ _ _ _ _
      c.in-Some.ensures.steps.0 c.in-Some.ensures.steps.1 c.loop-rank.invariant.written c.in_ok-put_text.ensures.whole;
  faults = omega (arith, c.loop-rank.invariant.faults, c.in_ok-put_text.ensures.later);
}

pub returns-in_err-put_text-clause-part : goal.returns-in_err-put_text-clause-part
returns-in_err-put_text-clause-part g c =
    line_fails (take_source c.loop-rank.rank-iterator) (take_source c.next.new.self) (c.in-Some.rank, c.in-Some.word) (take_count c.loop-rank.rank-iterator) (take_count c.next.new.self) _ _ _ _ _
    c.in-Some.ensures.steps.0 c.in-Some.ensures.steps.1 c.loop-rank.invariant.written c.in_err-put_text.ensures.part

pub returns-clause-whole : goal.returns-clause-whole
returns-clause-whole g c =
    passed_to _ _ _ _ _ c.loop-rank.invariant.written
    (lines_none (take_source c.loop-rank.rank-iterator) (take_count c.loop-rank.rank-iterator) (λ h. (c.in-None.ensures.steps h).0))
