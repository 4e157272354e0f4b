-- Where nothing is found the search goes back to the place before; at the first place nothing is left.
use Rattle.std.proofs.Common.{◌≡◌, ℕ, ◌+◌, ◌<◌, List, [], ◌∷◌, ◌++◌, length, true≢false, refl, sym, ◌∙◌, ap, subst, arith}
use Rattle.av_perm.proofs.ListLaws.{length_snoc}
use Rattle.av_embed.specs.Left.{StandsAt, embeddings_from}
use Rattle.av_embed.proofs.Begun.{stands_back}
use Rattle.av_embed.proofs.Steps.{child_back, embeddings_none}
use Rattle.av_embed.proofs.embeddings.advance.Goals as goal

-- no number of elements is above 0
nil_from_none : (e : List ℕ) → (0 < length e → ⊥) → e ≡ []
nil_from_none [] h = refl
nil_from_none (x ∷ e) h = absurd (h (omega arith))

pub loop-children-preserved : goal.loop-children-preserved
loop-children-preserved c =
    let γ : List ℕ = c.args.pattern.now in
    let π : List ℕ = c.args.root.now in
    let e : List ℕ = c.loop-children.children.items in
    let f : List ℕ = c.pop.new.self.items in
    let x : ℕ = c.in-Some.child in
    let p : List ℕ = c.args.children.now.items ++ c.args.from ∷ [] in
    let d : e ≡ f ++ x ∷ [] = sym (c.loop-children-test.ensures.kept refl) ∙ c.in-Some.ensures.items in
    let s : StandsAt π γ (f ++ x ∷ []) c.loop-children.from = subst (λ (l : List ℕ). StandsAt π γ l c.loop-children.from) d c.loop-children.invariant.0 in
    let m : embeddings_from π γ (e ++ c.loop-children.from ∷ []) ≡ embeddings_from π γ (e ++ (length π + 1) ∷ []) = c.loop-children-test.ensures.missed refl in
    (stands_back π γ f x s.begun (omega (arith, length_snoc f x, s.room)), c.loop-children.invariant.1 ∙ m ∙ ap (λ (l : List ℕ). embeddings_from π γ (l ++ (length π + 1) ∷ [])) d ∙ child_back π γ f x s.room)

pub returns-in-None-clause-over : goal.returns-in-None-clause-over
returns-in-None-clause-over c _ =
    let γ : List ℕ = c.args.pattern.now in
    let π : List ℕ = c.args.root.now in
    let e : List ℕ = c.loop-children.children.items in
    let k : c.complete.new.children.items ≡ e = c.loop-children-test.ensures.kept refl in
    let n : e ≡ [] = sym k ∙ nil_from_none c.complete.new.children.items (λ h. true≢false (sym (c.in-None.ensures.variant.1 h))) in
    c.loop-children.invariant.1
    ∙ c.loop-children-test.ensures.missed refl
    ∙ ap (λ (l : List ℕ). embeddings_from π γ (l ++ (length π + 1) ∷ [])) n
    ∙ embeddings_none π γ (omega (arith, c.requires.stands.room))
