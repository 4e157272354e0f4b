-- Each turn gives the first choice that is left.
use Rattle.std.proofs.Common.{◌≡◌, ◌+◌, ◌-◌, ◌∷◌, sym, ap, ◌∙◌, arith, rules}
use Rattle.av_union.specs.declared.choices.Choice.TheVariants.{Shared, New}
use Rattle.av_union.specs.Choices.{choices_from}
use Rattle.av_union.proofs.ChoiceLists.{shared_next, new_next, place_next}
use Rattle.av_union.proofs.choices.ChoicesIterator.next.Goals as goal

pub returns-then-self-clause-steps : goal.returns-then-self-clause-steps
returns-then-self-clause-steps c =
    let s = c.self.inside in
    let k : s.shared ≡ s.shared + 1 - 1 = omega arith in
    sym c.self.view_is ∙ shared_next s.len s.shared s.place s.below c.if-self.true
    ∙ ap (λ p. Shared p ∷ choices_from s.len (s.shared + 1) s.place s.below) k

pub returns-then-self-clause-goes : goal.returns-then-self-clause-goes
returns-then-self-clause-goes c = let e = returns-then-self-clause-steps c in search rules

pub returns-then-self-2-clause-steps : goal.returns-then-self-2-clause-steps
returns-then-self-2-clause-steps c =
    let s = c.self.inside in
    sym c.self.view_is ∙ place_next s.len s.shared s.place s.below (omega (arith, c.if-self.false)) (omega (arith, c.if-self-2.true)) (omega (arith, c.self.invariant, c.if-self-3.false))

pub returns-then-self-2-clause-goes : goal.returns-then-self-2-clause-goes
returns-then-self-2-clause-goes c = let e = returns-then-self-2-clause-steps c in search rules

pub returns-clause-steps : goal.returns-clause-steps
returns-clause-steps c =
    let s = c.self.inside in
    let b : s.below ≡ s.below + 1 - 1 = omega arith in
    sym c.self.view_is ∙ new_next s.len s.shared s.place s.below (omega (arith, c.if-self.false)) (omega (arith, c.if-self-2.false))
    ∙ ap (λ v. New s.place v ∷ choices_from s.len s.shared s.place (s.below + 1)) b

pub returns-clause-goes : goal.returns-clause-goes
returns-clause-goes c = let e = returns-clause-steps c in search rules
