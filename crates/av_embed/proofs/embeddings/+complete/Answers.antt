-- A child that may go completes the map, or leads to the first embedding or to none.
use Rattle.std.proofs.Common.{◌≡◌, ℕ, ◌+◌, List, [], ◌∷◌, ◌++◌, length, true≢false, refl, sym, ◌∙◌, ap, subst, arith}
use Rattle.av_perm.proofs.ListLaws.{length_snoc, popped}
use Rattle.av_embed.specs.Left.{embeddings_from, embeddings_after}
use Rattle.av_embed.proofs.Begun.{same_begun}
use Rattle.av_embed.proofs.Steps.{found_here, found_deeper, missed_deeper, child_skipped}
use Rattle.av_embed.proofs.embeddings.+complete.Goals as goal
use Rattle.av_embed.proofs.embeddings.+complete.Goals.{then-len-places-via-then-len-places, then-len-places-via-else-len-places+then-complete, then-may_go+else-len-places+else-complete, else-may_go}

pub returns-then-len-places-clause-found : goal.returns-then-len-places-clause-found
returns-then-len-places-clause-found t c _ =
    let γ : List ℕ = c.args.pattern.now in
    let π : List ℕ = c.args.root.now in
    let e : List ℕ = c.args.children.now.items in
    let x : ℕ = c.loop-child.child in
    let p : List ℕ = e ++ c.args.from ∷ [] in
    let q : c.as_slice-in-loop-child-2.result.now ≡ e = c.as_slice-in-loop-child-2.ensures.value ∙ c.loop-child.invariant.0 in
    let d : c.push.new.self.items ≡ e ++ x ∷ [] = c.push.ensures.items ∙ ap (λ (l : List ℕ). l ++ x ∷ []) c.loop-child.invariant.0 in
    elim c.then-len-places.branch [
      | then-len-places-via-then-len-places w ↦
          rw (w.children-is, d) (found_here π γ e x p c.loop-child.invariant.1
          (same_begun _ π _ γ _ e x c.as_slice-in-loop-child.ensures c.as_slice.ensures q (c.may_go.ensures.0 c.if-may_go.true))
          (ap length (sym d) ∙ sym c.len-then-may_go.ensures.value ∙ w.if-len-places.true ∙ c.len-places.ensures.value))
      | then-len-places-via-else-len-places+then-complete w ↦
          rw w.children-is (found_deeper π γ e x p w.complete.new.children.items c.loop-child.invariant.1
          (omega (arith, length_snoc e x, ap length d))
          (subst (λ (l : List ℕ). embeddings_from π γ (l ++ x ∷ []) ≡ w.complete.new.children.items ∷ embeddings_after π γ w.complete.new.children.items) d (w.if-complete.ensures.found refl)))
    ]

pub loop-child-preserved : goal.loop-child-preserved
loop-child-preserved t c =
    let γ : List ℕ = c.args.pattern.now in
    let π : List ℕ = c.args.root.now in
    let e : List ℕ = c.args.children.now.items in
    let x : ℕ = c.loop-child.child in
    let q : c.as_slice-in-loop-child-2.result.now ≡ e = c.as_slice-in-loop-child-2.ensures.value ∙ c.loop-child.invariant.0 in
    elim c.if-may_go.branch [
      | then-may_go+else-len-places+else-complete w ↦
          let d : w.push.new.self.items ≡ e ++ x ∷ [] = w.push.ensures.items ∙ ap (λ (l : List ℕ). l ++ x ∷ []) c.loop-child.invariant.0 in (
            rw w.children-is (popped e w.complete.new.children.items w.pop.new.self.items x (w.if-complete.ensures.kept refl ∙ d) w.pop.ensures.rest),
            c.loop-child.invariant.1
                ∙ missed_deeper π γ e x
                (omega (arith, length_snoc e x, ap length d))
                (subst (λ (l : List ℕ). embeddings_from π γ (l ++ x ∷ []) ≡ embeddings_from π γ (l ++ (length π + 1) ∷ [])) d (w.if-complete.ensures.missed refl)),
          )
      | else-may_go w ↦ (
        rw w.children-is c.loop-child.invariant.0,
        c.loop-child.invariant.1
            ∙ child_skipped π γ e x c.requires.stands.room (λ b. absurd (true≢false (sym (c.may_go.ensures.1 (same_begun π _ γ _ e _ x (sym c.as_slice-in-loop-child.ensures) (sym c.as_slice.ensures) (sym q) b)) ∙ w.if-may_go.false))),
      )
    ]
