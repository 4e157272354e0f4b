-- The gap is final, so the two lists are empty.
use Rattle.std.proofs.Common.{sym, ap, ◌∙◌, arith}
use Rattle.av_perm.specs.Gap.{simples}
use Rattle.av_tests.proofs.gaps.extended_to_16.Goals as goal

pub extend_level-requires-clause-two_below : goal.extend_level-requires-clause-two_below
extend_level-requires-clause-two_below c =
    let few = c.if-gap-gt14.false in
    c.empty-none.ensures ∙ sym (ap (λ b. simples b 14) c.basis.ensures ∙ c.gap_is_final-gap.ensures.none_from.none_listed 14 (omega arith))

pub extend_level-requires-clause-one_below : goal.extend_level-requires-clause-one_below
extend_level-requires-clause-one_below c =
    let few = c.if-gap-gt14.false in
    c.empty-none.ensures ∙ sym (ap (λ b. simples b 15) c.basis.ensures ∙ c.gap_is_final-gap.ensures.none_from.none_listed 15 (omega arith))
