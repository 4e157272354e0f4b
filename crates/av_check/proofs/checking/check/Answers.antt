-- The verdict is that of the definition, so a yes is right.
use Rattle.std.proofs.Common.{sym, ap, ◌∙◌}
use Rattle.av_check.specs.Verdicts.{yes_if}
use Rattle.av_check.proofs.Checked.{void_verdict, full_checked, is_claim, yes_right, right_checked}
use Rattle.av_check.proofs.checking.check.Goals as goal

pub returns-then-is_void-clause-verdict : goal.returns-then-is_void-clause-verdict
returns-then-is_void-clause-verdict c =
    void_verdict c.args.claim.now c.args.roots.now c.in_ok-first.first c.yes_if.result c.in_ok-first.ensures.name
    (sym c.is_void.ensures ∙ c.if-is_void.true) (c.yes_if.ensures ∙ ap yes_if c.is_bare.ensures)

pub returns-then-is_void-clause-right : goal.returns-then-is_void-clause-right
returns-then-is_void-clause-right c =
    yes_right c.args.claim.now c.args.roots.now c.yes_if.result
    (is_claim c.args.claim.now c.requires.system c.in_ok-first.ensures.words.0 c.in_ok-first.ensures.words.1 c.len-equations.ensures.names)
    (returns-then-is_void-clause-verdict c)

pub returns-clause-verdict : goal.returns-clause-verdict
returns-clause-verdict c =
    full_checked c.args.claim.now c.args.roots.now c.in_ok-first.first c.first_verdict.result c.in_ok-first.ensures.name
    (sym c.is_void.ensures ∙ c.if-is_void.false) c.first_verdict.ensures

pub returns-clause-right : goal.returns-clause-right
returns-clause-right c =
    right_checked c.args.claim.now c.args.roots.now c.first_verdict.result
    (is_claim c.args.claim.now c.requires.system c.in_ok-first.ensures.words.0 c.in_ok-first.ensures.words.1 c.len-equations.ensures.names)
    (returns-clause-verdict c)
