-- An embedding that is found is the first that is left; the search goes on with the next child at its last place.
use Rattle.std.proofs.Common.{◌≡◌, ℕ, ◌+◌, List, [], ◌∷◌, ◌++◌, length, Option, refl, sym, ◌∙◌, ap, ap₂, subst, arith, rules}
use Rattle.std.specs.Option.{option_to_list}
use Rattle.av_perm.proofs.ListLaws.{length_snoc}
use Rattle.av_embed.specs.Embed.{IsEmbedding}
use Rattle.av_embed.specs.Left.{embeddings_from, embeddings_after}
use Rattle.av_embed.proofs.Begun.{begun_whole, stands_back}
use Rattle.av_embed.proofs.Steps.{embedding_next, embeddings_none}
use Rattle.av_embed.proofs.embeddings.EmbeddingsIterator.next.Goals as goal

pub returns-then-not-advance-clause-steps : goal.returns-then-not-advance-clause-steps
returns-then-not-advance-clause-steps c =
    let s = c.self.inside in
    let over = c.if-not-advance.ensures in (
      sym c.self.view_is ∙ over.over refl,
      ap₂ (λ (l : List ℕ) (k : ℕ). embeddings_from s.root.now s.pattern.now (l ++ (k + 1) ∷ [])) (over.none refl) c.len.ensures.value
          ∙ embeddings_none s.root.now s.pattern.now (omega (arith, c.self.invariant.0.room)),
    )

pub invariant_of-self-2 : goal.invariant_of-self-2
invariant_of-self-2 c =
    let s = c.self.inside in
    let e : List ℕ = c.pop.new.self.items in
    let x : ℕ = c.unwrap.result in
    let d : c.advance.new.children.items ≡ e ++ x ∷ [] = c.pop.ensures.items ∙ ap (λ (o : Option ℕ). e ++ option_to_list o) c.unwrap.ensures in
    let m : IsEmbedding s.root.now s.pattern.now (e ++ x ∷ []) = subst (IsEmbedding s.root.now s.pattern.now) d (c.if-not-advance.ensures.whole refl) in
    (stands_back s.root.now s.pattern.now e x (begun_whole s.root.now s.pattern.now (e ++ x ∷ []) m) (omega (arith, m.count, length_snoc e x)), c.self.invariant.1, c.self.invariant.2)

pub returns-clause-steps : goal.returns-clause-steps
returns-clause-steps c =
    let s = c.self.inside in
    let e : List ℕ = c.pop.new.self.items in
    let x : ℕ = c.unwrap.result in
    let w : List ℕ = c.advance.new.children.items in
    let d : w ≡ e ++ x ∷ [] = c.pop.ensures.items ∙ ap (λ (o : Option ℕ). e ++ option_to_list o) c.unwrap.ensures in
    let m : IsEmbedding s.root.now s.pattern.now w = c.if-not-advance.ensures.whole refl in
    sym c.self.view_is
    ∙ c.if-not-advance.ensures.found refl
    ∙ ap₂ (λ (l : List ℕ) (ls : List (List ℕ)). l ∷ ls) (sym c.of-map.ensures)
    (ap (embeddings_after s.root.now s.pattern.now) d ∙ embedding_next s.root.now s.pattern.now e x (ap length (sym d) ∙ m.count))

pub returns-clause-goes : goal.returns-clause-goes
returns-clause-goes c = let e = returns-clause-steps c in search rules
