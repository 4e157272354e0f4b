-- The tests of both lists are those of what is left.
use Rattle.std.proofs.Common.{ap, sym, ◌∙◌, arith, true≢false}
use Rattle.std.specs.List.{list_any}
use Rattle.av_perm.specs.Contain.{contains}
use Rattle.av_union.proofs.LeavingPlaces.{one_leaves_none, leaves_both, leaves_none}
use Rattle.av_union.proofs.leaving_out.is_in_both_without.Goals as goal

pub returns-then-len-eq1 : goal.returns-then-len-eq1
returns-then-len-eq1 c = (
  λ t. absurd (true≢false (sym t)),
  λ b. absurd (one_leaves_none c.args.first.now c.args.second.now c.args.word.now c.args.place c.requires (omega (arith, c.len.ensures.value, c.if-len-eq1.true)) b),
)

pub returns-then-contains_some : goal.returns-then-contains_some
returns-then-contains_some c =
    let r = c.without-rest.result in
    leaves_both c.args.first.now c.args.second.now c.args.word.now r c.args.place c.len.ensures.word c.requires (omega (arith, c.len.ensures.value, c.if-len-eq1.false, c.requires))
    c.without-rest.ensures
    (ap (list_any (λ v. contains r v)) (sym c.as_slice.ensures) ∙ sym c.contains_some.ensures ∙ c.if-contains_some.true)
    c.contains_some-then-contains_some.result
    (c.contains_some-then-contains_some.ensures ∙ ap (list_any (λ v. contains r v)) c.as_slice-then-contains_some.ensures)

pub returns-else-contains_some : goal.returns-else-contains_some
returns-else-contains_some c =
    let r = c.without-rest.result in (
      λ t. absurd (true≢false (sym t ∙ c.if-contains_some.false)),
      λ b. absurd (leaves_none c.args.first.now c.args.second.now c.args.word.now r c.args.place c.without-rest.ensures
          (ap (list_any (λ v. contains r v)) (sym c.as_slice.ensures) ∙ sym c.contains_some.ensures ∙ c.if-contains_some.false) b),
    )
