-- The first child, and the others.
use Rattle.std.proofs.Common.{sym, ap, ◌∙◌}
use Rattle.std.proofs.lemmas.List.{get_or_default}
use Rattle.av_walk.specs.Leaves.{names_at}
use Rattle.av_check.specs.Verdicts.{are_signed}
use Rattle.av_check.proofs.SignTests.{sign_of, signed_by}
use Rattle.av_check.proofs.roots.are_signed.Goals as goal

pub returns-then-eq : goal.returns-then-eq
returns-then-eq c =
    let here = c.child-item.is ∙ get_or_default c.as_slice.result.now 0 c.child-item.result 0 c.in-len1-up.len_at_least in
    signed_by c.args.system.now c.args.first c.sign_at.result c.as_slice.result.now c.are_plain.result c.in-len1-up.len_at_least (c.sign_at.ensures ∙ ap (sign_of c.args.system.now) here) (sym c.eq.ensures ∙ c.if-eq.true) c.are_plain.ensures
    ∙ ap (λ cs. are_signed c.args.first (names_at c.args.system.now cs)) c.as_slice.ensures
