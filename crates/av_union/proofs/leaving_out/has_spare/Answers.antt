-- The place found is not chosen, and comes before the last one chosen.
use Rattle.std.proofs.Common.{ℕ, ◌-◌, ◌==◌, List, length, eq-eqb, refl, sym, ap, ◌∙◌, subst, arith, true≢false}
use Rattle.std.specs.List.{list_any}
use Rattle.av_perm.specs.Contain.{contains}
use Rattle.av_perm.specs.Relations.{at}
use Rattle.av_perm.proofs.Membership.{In_at}
use Rattle.av_perm.proofs.Tests.{any_to}
use Rattle.av_union.specs.Union.{ContainsSome}
use Rattle.av_union.specs.Gather.{HasSpare}
use Rattle.av_union.proofs.Unions.{some_from}
use Rattle.av_union.proofs.leaving_out.has_spare.Goals as goal

pub returns-then-contains_some : goal.returns-then-contains_some
returns-then-contains_some c = λ t.
    let q = c.as_slice-places.result.now in
    let x = c.loop-place.place-counter in
    let r = c.without.result in
    let found = some_from r c.args.first.now (ap (list_any (λ v. contains r v)) (sym c.as_slice.ensures) ∙ sym c.contains_some.ensures ∙ c.if-contains_some.true) in
    subst (HasSpare c.args.first.now c.args.partial.now.word) c.as_slice-places.ensures.value (record {
      spare = (
        x,
        at q (length q - 1),
        c.loop-place-test.true,
        In_at q (length q - 1) 0 (omega (arith, c.if-places-eq0.false)),
        λ i. true≢false (sym (any_to (λ y. y == x) q x i (eq-eqb x x refl)) ∙ sym c.contains.ensures.value ∙ c.if-not-contains.true),
        subst (λ (v : List ℕ). ContainsSome v c.args.first.now) c.without.ensures found,
      );
    })
