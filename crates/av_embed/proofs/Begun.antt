-- Embeddings of the first entries of a word.
use Rattle.std.proofs.Common.{◌≡◌, ℕ, suc, ◌+◌, ◌-◌, ◌<◌, ◌≤◌, ◌≢◌, inl, inr, ◌↔◌, List, [], ◌∷◌, ◌++◌, length, take, take_all, take-take, refl, sym, ap, ◌∙◌, subst, arith}
use Rattle.std.proofs.lemmas.Bool.{cases_lt}
use Rattle.std.proofs.lemmas.List.{get_or-take, length-take-le}
use Rattle.std.proofs.Math.Seq.{take-append_seam}
use Rattle.av_perm.specs.Word.{entry}
use Rattle.av_perm.specs.Relations.{at, IsOneToLength}
use Rattle.av_perm.proofs.Occurrences.{entry_at}
use Rattle.av_perm.proofs.ListLaws.{length_snoc, snoc_before, snoc_last}
use Rattle.av_embed.specs.Embed.{IsEmbedding}
use Rattle.av_embed.specs.Left.{IsBegun, StandsAt}

-- the first places of an embedding embed as many entries
pub front_begun : (π γ e : List ℕ) (j : ℕ) → IsEmbedding π γ e → j ≤ length e → IsEmbedding π (take j γ) (take j e)
front_begun π γ e j m h =
    let n = length-take-le j e h in
    let k = length-take-le j γ (omega (arith, m.count)) in
    let is : (s : ℕ) → s < length (take j e) → at (take j e) s ≡ at e s = λ s l. get_or-take j e s 0 (omega arith) in
    let of : (s : ℕ) → s < length (take j e) → at (take j γ) s ≡ at γ s = λ s l. get_or-take j γ s 0 (omega arith) in
    record {
      count = n ∙ sym k;
      children = λ s l. let a = is s l in let b = m.children s (omega arith) in (omega arith, omega arith);
      rising = λ s t l o. let a = is s (omega arith) in let b = is t o in let c = m.rising s t l (omega arith) in omega arith;
      across = λ s t l o ne.
          let a = is s l in
          let b = is t o in
          let c = of s l in
          let d = of t o in
          let g = m.across s t (omega arith) (omega arith) (λ q. ne (a ∙ q ∙ sym b)) in
          let x = ap (entry π) a in
          let y = ap (entry π) b in
          (λ v. let z = g.0 (omega arith) in omega arith, λ v. let z = g.1 (omega arith) in omega arith);
    }

-- the entries of a word at different places differ
apart_at : (w : List ℕ) (s t : ℕ) → IsOneToLength w → s < length w → t < length w → s ≢ t → at w s ≢ at w t
apart_at w s t i h k ne = elim (cases_lt s t) [
  | inl l ↦ i.apart s t l k
  | inr l ↦ λ e. i.apart t s (omega (arith, ne)) h (sym e)
]

-- the root's entries at different children differ
entries_apart : (π : List ℕ) (c d : ℕ) → IsOneToLength π → (1 ≤ c) × (c ≤ length π) → (1 ≤ d) × (d ≤ length π) → c ≢ d → entry π c ≢ entry π d
entries_apart π c d i hc hd ne e =
    apart_at π (c - 1) (d - 1) i (omega arith) (omega arith) (λ q. ne (omega arith)) (sym (entry_at π c hc.0) ∙ e ∙ entry_at π d hd.0)

-- the next entry lies to that of place s as the child c lies to the child of s
abbrev pub LiesAt : List ℕ → List ℕ → List ℕ → ℕ → ℕ → Type 0
LiesAt π γ e c s = at e s ≢ c → (at γ s < at γ (length e)) ↔ (entry π (at e s) < entry π c)

-- the next place of a pattern and a child that isn't below the earlier children
module _ (π γ e : List ℕ) (c : ℕ) (root : IsOneToLength π) (word : IsOneToLength γ) (begun : IsBegun π γ e) (room : length e < length γ)
    (child : (1 ≤ c) × (c ≤ length π)) (rising : (s : ℕ) → s < length e → at e s ≤ c) where
  -- one child more
  n : length (e ++ c ∷ []) ≡ suc (length e)
  n = length_snoc e c

  -- as many entries
  long : length (take (length (e ++ c ∷ [])) γ) ≡ suc (length e)
  long = length-take-le (length (e ++ c ∷ [])) γ (omega (arith, n)) ∙ n

  -- the entries are the word's
  entry_of : (s : ℕ) → s < suc (length e) → at (take (length (e ++ c ∷ [])) γ) s ≡ at γ s
  entry_of s h = get_or-take (length (e ++ c ∷ [])) γ s 0 (omega (arith, n))

  -- those before the new place too
  earlier : (s : ℕ) → s < length e → at (take (length e) γ) s ≡ at γ s
  earlier s h = get_or-take (length e) γ s 0 h

  -- each child is one of the root's: a place is an earlier one or the new one
  within : (s : ℕ) → s < suc (length e) → (1 ≤ at (e ++ c ∷ []) s) × (at (e ++ c ∷ []) s ≤ length π)
  within s h = elim (cases_lt s (length e)) [
    | inl l ↦ let a = snoc_before e c s l in let b = begun.children s l in (omega arith, omega arith)
    | inr l ↦ let a = snoc_last e c s (omega arith) in (omega arith, omega arith)
  ]

  -- the children rise
  up : (s t : ℕ) → s < t → t < suc (length e) → at (e ++ c ∷ []) s ≤ at (e ++ c ∷ []) t
  up s t h k = let a = snoc_before e c s (omega arith) in elim (cases_lt t (length e)) [
    | inl l ↦ let b = snoc_before e c t l in let r = begun.rising s t h l in omega arith
    | inr l ↦ let b = snoc_last e c t (omega arith) in let r = rising s (omega arith) in omega arith
  ]

  -- an earlier place against the new one, both ways
  new_lies : (s : ℕ) → s < length e → LiesAt π γ e c s → at e s ≢ c → (at γ (length e) < at γ s) ↔ (entry π c < entry π (at e s))
  new_lies s h l ne =
      let g = l ne in
      let a = apart_at γ s (length e) word (omega arith) room (λ q. omega arith) in
      let b = entries_apart π (at e s) c root (begun.children s h) child ne in (
        λ v. elim (cases_lt (entry π c) (entry π (at e s))) [ inl k ↦ k | inr k ↦ let z = g.1 (omega (arith, b)) in absurd (omega arith) ],
        λ v. elim (cases_lt (at γ (length e)) (at γ s)) [ inl k ↦ k | inr k ↦ let z = g.0 (omega (arith, a)) in absurd (omega arith) ],
      )

  -- where the next entry lies to each earlier one as the children lie, the place may go to the child
  pub may_go : ((s : ℕ) → s < length e → LiesAt π γ e c s) → IsBegun π γ (e ++ c ∷ [])
  may_go lies = record {
    count = n ∙ sym long;
    children = λ s h. within s (omega (arith, n));
    rising = λ s t h k. up s t h (omega (arith, n));
    across = λ s t h k ne. both s t (omega (arith, n)) (omega (arith, n)) ne;
  }
    where
      both : (s t : ℕ) → s < suc (length e) → t < suc (length e) → at (e ++ c ∷ []) s ≢ at (e ++ c ∷ []) t
          → (at (take (length (e ++ c ∷ [])) γ) s < at (take (length (e ++ c ∷ [])) γ) t) ↔ (entry π (at (e ++ c ∷ []) s) < entry π (at (e ++ c ∷ []) t))
      both s t h k ne =
          let x = entry_of s h in
          let y = entry_of t k in
          elim (cases_lt s (length e)) [
            | inl l ↦ elim (cases_lt t (length e)) [
              | inl m ↦
                  let a = snoc_before e c s l in
                  let b = snoc_before e c t m in
                  let g = begun.across s t l m (λ q. ne (a ∙ q ∙ sym b)) in
                  let x' = earlier s l in
                  let y' = earlier t m in
                  let u = ap (entry π) a in
                  let v = ap (entry π) b in
                  (λ z. let o = g.0 (omega arith) in omega arith, λ z. let o = g.1 (omega arith) in omega arith)
              | inr m ↦
                  let a = snoc_before e c s l in
                  let q : t ≡ length e = omega arith in
                  let b = snoc_last e c t q in
                  let g = lies s l (λ r. ne (a ∙ r ∙ sym b)) in
                  let y' = ap (at γ) q in
                  let u = ap (entry π) a in
                  let v = ap (entry π) b in
                  (λ z. let o = g.0 (omega arith) in omega arith, λ z. let o = g.1 (omega arith) in omega arith)
            ]
            | inr l ↦ elim (cases_lt t (length e)) [
              | inl m ↦
                  let q : s ≡ length e = omega arith in
                  let a = snoc_last e c s q in
                  let b = snoc_before e c t m in
                  let g = new_lies t m (lies t m) (λ r. ne (a ∙ sym r ∙ sym b)) in
                  let x' = ap (at γ) q in
                  let u = ap (entry π) a in
                  let v = ap (entry π) b in
                  (λ z. let o = g.0 (omega arith) in omega arith, λ z. let o = g.1 (omega arith) in omega arith)
              | inr m ↦ let q : s ≡ t = omega arith in absurd (ne (ap (at (e ++ c ∷ [])) q))
            ]
          ]

  -- where it doesn't lie so to one of them, the place may not
  pub may_not_go : (s : ℕ) → s < length e → (LiesAt π γ e c s → ⊥) → IsBegun π γ (e ++ c ∷ []) → ⊥
  may_not_go s h unlike b =
      unlike (λ ne.
      let a = snoc_before e c s h in
      let d = snoc_last e c (length e) refl in
      let g = b.across s (length e) (omega (arith, n)) (omega (arith, n)) (λ q. ne (sym a ∙ q ∙ d)) in
      let x = entry_of s (omega arith) in
      let y = entry_of (length e) (omega arith) in
      let u = ap (entry π) a in
      let v = ap (entry π) d in
      (λ z. let o = g.0 (omega arith) in omega arith, λ z. let o = g.1 (omega arith) in omega arith))

-- children that embed all places
pub whole_begun : (π γ e : List ℕ) → IsBegun π γ e → length e ≡ length γ → IsEmbedding π γ e
whole_begun π γ e b h = subst (λ (w : List ℕ). IsEmbedding π w e) (take_all (length e) γ (omega arith)) b

-- an embedding embeds all entries
pub begun_whole : (π γ e : List ℕ) → IsEmbedding π γ e → IsBegun π γ e
begun_whole π γ e m = subst (λ (w : List ℕ). IsEmbedding π w e) (sym (take_all (length e) γ (omega (arith, m.count)))) m

-- the search at the place of the last child, past that child
pub stands_back : (π γ e : List ℕ) (c : ℕ) → IsBegun π γ (e ++ c ∷ []) → length e < length γ → StandsAt π γ e (c + 1)
stands_back π γ e c b room =
    let n = length_snoc e c in
    let last = snoc_last e c (length e) refl in
    let top = b.children (length e) (omega arith) in
    record {
      begun =
          subst (λ (w : List ℕ). IsEmbedding π w e) (take-take (length e) (length (e ++ c ∷ [])) γ (omega arith))
          (subst (λ (f : List ℕ). IsEmbedding π (take (length e) (take (length (e ++ c ∷ [])) γ)) f) (take-append_seam e (c ∷ []))
          (front_begun π (take (length (e ++ c ∷ [])) γ) (e ++ c ∷ []) (length e) b (omega arith)));
      room = room;
      low = omega arith;
      high = omega arith;
      rising = λ t h. let a = snoc_before e c t h in let r = b.rising t (length e) h (omega arith) in omega arith;
    }

-- equal words and equal children
pub same_begun : (π π' γ γ' e e' : List ℕ) (c : ℕ) → π ≡ π' → γ ≡ γ' → e ≡ e' → IsBegun π γ (e ++ c ∷ []) → IsBegun π' γ' (e' ++ c ∷ [])
same_begun π π' γ γ' e e' c p q r b =
    subst (λ (l : List ℕ). IsBegun π' γ' (l ++ c ∷ [])) r
    (subst (λ (w : List ℕ). IsBegun π' w (e ++ c ∷ [])) q
    (subst (λ (w : List ℕ). IsBegun w γ (e ++ c ∷ [])) p b))
