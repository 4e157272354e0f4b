-- The next place may go to the child exactly where no earlier place tells against it.
use Rattle.std.proofs.Common.{◌≡◌, ℕ, ◌<◌, ◌↔◌, Bool, true, false, not, nat_lt, lt-ltb, inl, inr, refl, sym, ◌∙◌, true≢false, List, arith}
use Rattle.std.proofs.Math.Bool.{beq}
use Rattle.std.proofs.lemmas.Bool.{cases_lt, le-ltb}
use Rattle.av_perm.specs.Relations.{at}
use Rattle.av_perm.proofs.Occurrences.{entry_at}
use Rattle.av_perm.proofs.PermWords.{perm_word}
use Rattle.av_embed.proofs.Begun.{may_go, may_not_go}
use Rattle.av_embed.proofs.embeddings.may_go.Goals as goal

-- two comparisons that differ
differ : (a b c d : ℕ) → not (beq (nat_lt a b) (nat_lt c d)) ≡ true → (a < b) ↔ (c < d) → ⊥
differ a b c d e g = elim (cases_lt a b) [
  | inl l ↦ let x = lt-ltb a b l in let y = lt-ltb c d (g.0 l) in unequal (nat_lt a b) (nat_lt c d) (x ∙ sym y) e
  | inr l ↦
      let x = le-ltb a b l in
      let y = le-ltb c d (elim (cases_lt c d) [ inl k ↦ let z = g.1 k in absurd (omega arith) | inr k ↦ k ]) in
      unequal (nat_lt a b) (nat_lt c d) (x ∙ sym y) e
]
  where
    unequal : (s t : Bool) → s ≡ t → not (beq s t) ≡ true → ⊥
    unequal true true q e = cc
    unequal true false q e = cc
    unequal false true q e = cc
    unequal false false q e = cc

pub returns-then-pattern-i : goal.returns-then-pattern-i
returns-then-pattern-i c =
    let s = c.requires.stands in
    let e : List ℕ = c.args.children.now in
    let k = s.begun.children c.loop-i.i c.loop-i-test.true in
    let x = entry_at c.args.root.now (at e c.loop-i.i) k.0 in
    let y = entry_at c.args.root.now c.args.child s.low in
    let root = (perm_word c.args.root.now c.requires.root).numbers in
    let pattern = (perm_word c.args.pattern.now c.requires.pattern).numbers in (
      λ t. absurd (true≢false (sym t)),
      λ b. absurd (may_not_go c.args.root.now c.args.pattern.now e c.args.child root pattern s.begun s.room (s.low, c.requires.child) s.rising
          c.loop-i.i c.loop-i-test.true
          (λ l. differ _ _ _ _ c.if-pattern-i.true (let g = l c.if-other-child.true in (λ a. let z = g.0 a in omega arith, λ a. g.1 (omega arith)))) b),
    )

pub returns : goal.returns
returns c =
    let s = c.requires.stands in
    let root = (perm_word c.args.root.now c.requires.root).numbers in
    let pattern = (perm_word c.args.pattern.now c.requires.pattern).numbers in (
      λ t.
          may_go c.args.root.now c.args.pattern.now c.args.children.now c.args.child root pattern s.begun s.room (s.low, c.requires.child) s.rising
          (λ k h. c.loop-i.invariant k (omega arith)),
      λ b. refl,
    )
