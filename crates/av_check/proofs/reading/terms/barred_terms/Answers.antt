-- Each two tokens are a term and a bar; one is left, which is a term.
use Rattle.std.proofs.Common.{ℕ, List, ◌∷◌, ◌-◌, length, take, drop, refl, sym, ap₂, ◌∙◌, arith, true≢false}
use Rattle.std.proofs.lemmas.List.{length-map}
use Rattle.av_check.proofs.Loops.{bytes, first_two}
use Rattle.av_check.proofs.Terms.{bars_more, bars_last, bars_none, first_none, second_none, last_none}
use Rattle.av_check.proofs.reading.terms.barred_terms.Goals as goal

pub returns-in_default-2 : goal.returns-in_default-2
returns-in_default-2 c =
    let none = rw c.in_default-2.is at c.in_ok-term.ensures in
    bars_none c.loop-left.invariant (λ us are e. first_none c.args.count _ _ none us are (sym (first_two c.loop-left.left.now _ (omega arith)) ∙ e))

pub returns-then-not-is : goal.returns-then-not-is
returns-then-not-is c =
    bars_none c.loop-left.invariant
    (λ us are e. second_none c.args.count _ _ _ (λ f. true≢false (sym (c.if-not-is.ensures.1 f))) us are (sym (first_two c.loop-left.left.now _ (omega arith)) ∙ e))

pub loop-left-preserved : goal.loop-left-preserved
loop-left-preserved c =
    let t = rw c.in-Some.is at c.in_ok-term.ensures in
    rw c.in_ok-push.ensures.ok
    (bars_more c.in-Some.term _ t.0
    (first_two c.loop-left.left.now _ (omega arith)
    ∙ ap₂ (λ (a b : List ℕ). a ∷ b ∷ bytes (take (length c.loop-left.left.now - 2) (drop 2 c.loop-left.left.now))) t.1 (c.if-not-is.ensures.0 refl))
    c.loop-left.invariant)

pub returns-in_default-3 : goal.returns-in_default-3
returns-in_default-3 c =
    let none = rw c.in_default-3.is at c.in_ok-last.ensures in
    bars_none c.loop-left.invariant (last_none c.args.count (bytes c.loop-left.left.now) (omega (arith, length-map c.loop-left.left.now (λ t. t.now))) none)

pub returns : goal.returns
returns c =
    let t = rw c.in-Some-2.is at c.in_ok-last.ensures in
    rw c.in_ok-push-2.ensures.ok (bars_last c.in-Some-2.last t.0 t.1 c.loop-left.invariant)
