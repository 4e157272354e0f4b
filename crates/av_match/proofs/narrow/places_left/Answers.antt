-- An occurrence's entries lie in the spans, at the beginning and after each round.
use Rattle.std.proofs.Common.{ℕ, List, ◌∷◌, ◌++◌, length, arith, ap, sym, subst}
use Rattle.std.proofs.lemmas.Bool.{false≢true}
use Rattle.av_perm.specs.Relations.{at}
use Rattle.av_match.specs.Narrow.{AreRoutes}
use Rattle.av_match.proofs.Narrowing.{fit_same, goes_routes, goes_standing, inverse_order, next_there, value_at}
use Rattle.av_match.proofs.narrow.places_left.Goals as goal

pub narrow-requires-clause-order : goal.narrow-requires-clause-order
narrow-requires-clause-order c =
    rw c.of-stand.ensures.places (inverse_order c.args.pattern.now c.args.lines.now.pattern c.requires.pattern c.requires.lines.pattern)

pub returns-then-not-narrow-clause-kept : goal.returns-then-not-narrow-clause-kept
returns-then-not-narrow-clause-kept c = λ place rest goes.
    let w = c.args.word.now in
    let p = c.args.pattern.now in
    let cs = c.args.chosen.now in
    let lines = c.args.lines.now in
    let ps : List ℕ = cs ++ place ∷ rest in
    let fit = c.of-stand.ensures.fit (at ps) (value_at w ps) (goes_standing w p cs c.args.from place rest c.requires.word goes) in
    let routes = goes_routes w p cs c.args.from place rest lines c.requires.word c.requires.pattern c.requires.lines goes in
    let kept = c.if-not-narrow.ensures.kept (at ps) (value_at w ps)
    (subst (λ (m : ℕ). AreRoutes w lines (length cs) m (at ps) (value_at w ps)) (sym c.of-stand.ensures.places) routes) fit.0 fit.1 in
    absurd (false≢true kept.0)

pub returns-clause-kept : goal.returns-clause-kept
returns-clause-kept c = λ place rest goes.
    let w = c.args.word.now in
    let p = c.args.pattern.now in
    let cs = c.args.chosen.now in
    let lines = c.args.lines.now in
    let ps : List ℕ = cs ++ place ∷ rest in
    let fit = c.of-stand.ensures.fit (at ps) (value_at w ps) (goes_standing w p cs c.args.from place rest c.requires.word goes) in
    let routes = goes_routes w p cs c.args.from place rest lines c.requires.word c.requires.pattern c.requires.lines goes in
    let kept = c.if-not-narrow.ensures.kept (at ps) (value_at w ps)
    (subst (λ (m : ℕ). AreRoutes w lines (length cs) m (at ps) (value_at w ps)) (sym c.of-stand.ensures.places) routes) fit.0 fit.1 in
    let there = next_there cs place rest in
    let within = goes.whole.begun.placed (length cs) (omega (arith, goes.whole.count, c.requires.room)) in
    let left = fit_same c.narrow.new.self.places.items c.as_slice.result.now (at ps) c.as_slice.ensures.value kept.1.0 in
    let long = ap length c.as_slice.ensures.value in
    let lies = left (length cs) (omega (arith, c.if-not-narrow.ensures.places, c.of-stand.ensures.places, c.requires.room)) in
    (omega (arith, lies.0, goes.first), omega (arith, lies.1, within.1))
