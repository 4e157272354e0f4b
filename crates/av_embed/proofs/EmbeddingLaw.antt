-- The embedding law. The laws on inflations count children from 0, and embeddings count them from 1.
use Rattle.std.proofs.Common.{◌≡◌, ℕ, suc, ◌-◌, ◌<◌, ◌≤◌, List, [], ◌∷◌, map, length, refl, sym, ap, ap₂, ◌∙◌, subst, arith}
use Rattle.std.proofs.lemmas.List.{get_or-map, length-map}
use Rattle.av_perm.specs.Word.{entry}
use Rattle.av_perm.specs.Relations.{at, Contains, block, pattern_of}
use Rattle.av_perm.specs.Fibre.{fibre}
use Rattle.av_perm.proofs.Occurrences.{entry_at}
use Rattle.av_perm.proofs.Fibres.{fibre_suc}
use Rattle.av_perm.proofs.InflatedPatterns.{Sends, contained, containing}
use Rattle.av_embed.specs.Embed.{IsEmbedding}
use Rattle.av_embed.specs.Laws.{EmbeddingLaw}

-- each child one higher
pub sends_up : (π γ e : List ℕ) → Sends π γ e → IsEmbedding π γ (map suc e)
sends_up π γ e m =
    let n = length-map e suc in
    let is : (s : ℕ) → s < length e → at (map suc e) s ≡ suc (at e s) = λ s h. get_or-map suc e s 0 0 h in
    record {
      count = n ∙ m.count;
      children = λ s h. let a = is s (omega arith) in let b = m.children s (omega arith) in (omega arith, omega arith);
      rising = λ s t h k. let a = is s (omega arith) in let b = is t (omega arith) in let c = m.rising s t h (omega arith) in omega arith;
      across = λ s t h k ne.
          let a = is s (omega arith) in
          let b = is t (omega arith) in
          let c = m.across s t (omega arith) (omega arith) (λ q. ne (omega arith)) in
          let x = ap (entry π) a in
          let y = ap (entry π) b in
          (λ l. let z = c.0 l in omega arith, λ l. c.1 (omega arith));
    }

-- each child one lower
pub sends_down : (π γ e : List ℕ) → IsEmbedding π γ e → (f : List ℕ) × (e ≡ map suc f) × Sends π γ f
sends_down π γ e m = (
  map (λ c. c - 1) e,
  back e m.children,
  record {
    count = n ∙ m.count;
    children = λ s h. let l = n in let a = is s (omega arith) in let b = m.children s (omega arith) in omega arith;
    rising = λ s t h k. let l = n in let a = is s (omega arith) in let b = is t (omega arith) in let c = m.rising s t h (omega arith) in omega arith;
    across = λ s t h k ne.
        let l = n in
        let a = is s (omega arith) in
        let b = is t (omega arith) in
        let p = m.children s (omega arith) in
        let q = m.children t (omega arith) in
        let c = m.across s t (omega arith) (omega arith) (λ z. ne (omega arith)) in
        let x = ap (at π) a ∙ sym (entry_at π (at e s) p.0) in
        let y = ap (at π) b ∙ sym (entry_at π (at e t) q.0) in
        (λ v. let z = c.0 (omega arith) in omega arith, λ v. let z = c.1 (omega arith) in omega arith);
  },
)
  where
    n : length (map (λ c. c - 1) e) ≡ length e
    n = length-map e (λ (c : ℕ). c - 1)

    is : (s : ℕ) → s < length e → at (map (λ c. c - 1) e) s ≡ at e s - 1
    is s h = get_or-map (λ (c : ℕ). c - 1) e s 0 0 h

    back : (e : List ℕ) → ((s : ℕ) → s < length e → (1 ≤ at e s) × (at e s ≤ length π)) → e ≡ map suc (map (λ c. c - 1) e)
    back [] h = refl
    back (c ∷ e) h = let r = h 0 (omega arith) in let q : c ≡ suc (c - 1) = omega arith in ap₂ (λ (x : ℕ) (xs : List ℕ). x ∷ xs) q (back e (λ s k. h (suc s) (omega arith)))

-- an inflation contains a word exactly where some embedding fills the blocks
pub embedding_law : EmbeddingLaw
embedding_law π γ αs w b = (
  λ c.
      let r = contained π γ αs w b c in
      (map suc r.0, sends_up π γ r.0 r.1, λ i h ne. subst (λ l. Contains (block αs i) (pattern_of l)) (sym (fibre_suc γ r.0 i)) (r.2 i h (λ q. ne (fibre_suc γ r.0 i ∙ q)))),
  λ s.
      let d = sends_down π γ s.0 s.1 in
      let same : (i : ℕ) → fibre γ s.0 (suc i) ≡ fibre γ d.0 i = λ i. ap (λ e. fibre γ e (suc i)) d.1 ∙ fibre_suc γ d.0 i in
      containing π γ αs w b (d.0, d.2, λ i h ne. subst (λ l. Contains (block αs i) (pattern_of l)) (same i) (s.2 i h (λ q. ne (sym (same i) ∙ q)))),
)
