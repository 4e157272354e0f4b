-- The roots are those of the claim's basis.
use Rattle.std.proofs.Common.{◌≡◌, IfOk, subst, ap, ◌∙◌}
use Rattle.av_perm.specs.Gap.{simples_below}
use Rattle.av_check.specs.Verdicts.{verdict}
use Rattle.av_session.proofs.AboutClaims.{same_roots}
use Rattle.av_session.proofs.checking.verdict.Goals as goal

pub returns : goal.returns
returns c =
    let roots = c.in_ok-roots.ensures.value ∙ ap (λ B. simples_below B c.args.gap) c.requires.basis ∙ same_roots c.args.claim.now.basis c.args.gap c.requires.claim.words in
    subst (λ rs. IfOk c.check.result (λ v. v ≡ verdict c.args.claim.now rs)) roots c.check.ensures.verdict
