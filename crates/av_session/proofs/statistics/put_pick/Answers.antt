-- The three parts of the answer.
use Rattle.std.proofs.Common.{codes}
use Rattle.std.proofs.lemmas.Result.{on_ok_weaker}
use Rattle.av_print.specs.Text.{query_text}
use Rattle.av_session.specs.Answers.{picked_text}
use Rattle.av_session.proofs.WaitingLines.{first_line_fails, lines_fail, end_fails, list_waits}
use Rattle.av_session.proofs.statistics.put_pick.Goals as goal

pub returns-in_err-put_text-clause-part : goal.returns-in_err-put_text-clause-part
returns-in_err-put_text-clause-part g c =
    first_line_fails _ _ c.args.waiting.now.held (query_text c.args.query.now) (codes " =\n") (picked_text c.args.class.now.system c.args.kind c.args.value c.args.n) (codes "end\n")
    c.in_err-put_text.ensures.part

pub returns-in_err-put_picked-clause-part : goal.returns-in_err-put_picked-clause-part
returns-in_err-put_picked-clause-part g c =
    lines_fail _ _ _ c.args.waiting.now.held (query_text c.args.query.now) (codes " =\n") _ (picked_text c.args.class.now.system c.args.kind c.args.value c.args.n) (codes "end\n")
    c.in_ok-put_text.ensures.whole c.in_err-put_picked.ensures.part

pub returns-clause-whole : goal.returns-clause-whole
returns-clause-whole g c =
    on_ok_weaker c.put_text-2.result
    (list_waits _ _ _ _ c.args.waiting.now.held (query_text c.args.query.now) (codes " =\n") _ (picked_text c.args.class.now.system c.args.kind c.args.value c.args.n) _ (codes "end\n") _
    c.in_ok-put_text.ensures.whole c.in_ok-put_picked.ensures.whole)
    c.put_text-2.ensures.whole

pub returns-clause-part : goal.returns-clause-part
returns-clause-part g c =
    end_fails _ _ _ _ c.args.waiting.now.held (query_text c.args.query.now) (codes " =\n") _ (picked_text c.args.class.now.system c.args.kind c.args.value c.args.n) _ (codes "end\n")
    c.in_ok-put_text.ensures.whole c.in_ok-put_picked.ensures.whole c.put_text-2.ensures.part
