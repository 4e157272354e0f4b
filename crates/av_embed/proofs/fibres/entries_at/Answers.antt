-- Each place that goes to the child adds its entry.
use Rattle.std.proofs.Common.{◌≡◌, ℕ, ◌<◌, ◌≤◌, List, [], ◌∷◌, ◌++◌, length, take_all, sym, ◌∙◌, ap₂, arith}
use Rattle.av_perm.specs.Fibre.{fibre}
use Rattle.av_perm.proofs.NoRepeats.{once_from_apart}
use Rattle.av_perm.proofs.WordTests.{once_distinct}
use Rattle.av_perm.proofs.PermWords.{perm_word}
use Rattle.av_perm.proofs.Fibres.{fibre_once}
use Rattle.av_embed.proofs.FibreSteps.{fibre_with, fibre_without}
use Rattle.av_embed.proofs.fibres.entries_at.Goals as goal
use Rattle.av_embed.proofs.fibres.entries_at.Goals.{then-child, else-child}

pub loop-i-preserved : goal.loop-i-preserved
loop-i-preserved c =
    let γ : List ℕ = c.args.pattern.now in
    let e : List ℕ = c.args.map.now in
    let i : ℕ = c.loop-i.i in
    let h : i < length γ = omega (arith, c.len-i-end.ensures.value) in
    let k : i < length e = omega (arith, c.len-i-end.ensures.value, c.requires) in
    elim c.if-child.branch [
      | then-child w ↦ (
        rw w.entries-is (w.push.ensures.items ∙ ap₂ (λ (l : List ℕ) (x : ℕ). l ++ x ∷ []) c.loop-i.invariant.0 w.entry.ensures ∙ sym (fibre_with γ e c.args.child i h k (sym c.child.ensures ∙ w.if-child.true))),
        rw w.entries-is (omega (arith, w.push.ensures.len, c.loop-i.invariant.1)),
      )
      | else-child w ↦ (
        rw w.entries-is (c.loop-i.invariant.0 ∙ sym (fibre_without γ e c.args.child i h k (λ q. w.if-child.false (c.child.ensures ∙ q)))),
        rw w.entries-is (omega (arith, c.loop-i.invariant.1)),
      )
    ]

pub returns-clause-different : goal.returns-clause-different
returns-clause-different c =
    let γ : List ℕ = c.args.pattern.now in
    let e : List ℕ = c.args.map.now in
    let i : ℕ = c.loop-i.i in
    let n : length γ ≤ i = omega (arith, c.len-i-end.ensures.value) in
    let f : c.loop-i.entries.items ≡ fibre γ e c.args.child = c.loop-i.invariant.0 ∙ ap₂ (λ (l m : List ℕ). fibre l m c.args.child) (take_all i γ n) (take_all i e (omega (arith, c.requires))) in
    rw f (once_distinct (fibre γ e c.args.child) (fibre_once γ e c.args.child (once_from_apart γ (perm_word γ c.len-i-end.ensures.word).numbers.apart)))
