-- A minimal word that contains a word of each of two lists is covered by two of them: a place that neither uses could be left out.
use Rattle.std.proofs.Common.{◌≡◌, ℕ, ◌+◌, ◌-◌, ◌<◌, ◌≤◌, ◌⊎◌, inl, inr, List, length, sym, ap, ◌∙◌, arith}
use Rattle.av_perm.specs.Relations.{at, IsWord, AreWords, IsOccurrence, Contains}
use Rattle.av_perm.proofs.Membership.{In, at_In}
use Rattle.av_perm.proofs.Pigeons.{search_below, pigeons_by}
use Rattle.av_perm.proofs.Containment.{contains_trans, contains_length, contains_equal}
use Rattle.av_perm.proofs.MinimalWords.{words_each}
use Rattle.av_union.specs.Union.{IsCover, IsCovered, ContainsSome, InBoth, IsMinimalInBoth}
use Rattle.av_union.specs.Gather.{without}
use Rattle.av_union.proofs.WithoutPlaces.{In_decided, length_without, without_word, without_contained, without_contains}

-- two occurrences have all places of a word, or some place is in neither
cover_or_free : (σ τ w p q : List ℕ) → IsOccurrence w σ p → IsOccurrence w τ q
    → IsCover σ τ w p q ⊎ ((s : ℕ) × (s < length w) × (In s p → ⊥) × (In s q → ⊥))
cover_or_free σ τ w p q o u = elim (search_below (length w) (λ s. (In s p → ⊥) × (In s q → ⊥)) (λ s h. free s)) [
  | inl r ↦ inr (r.0, r.1, r.2.0, r.2.1)
  | inr none ↦ inl (record { first = o; second = u; all = λ s h. used s (none s h) })
]
  where
    free : (s : ℕ) → ((In s p → ⊥) × (In s q → ⊥)) ⊎ (((In s p → ⊥) × (In s q → ⊥)) → ⊥)
    free s = elim (In_decided s p) [
      | inl i ↦ inr (λ f. f.0 i)
      | inr n ↦ elim (In_decided s q) [ inl j ↦ inr (λ f. f.1 j) | inr m ↦ inl (n, m) ]
    ]

    used : (s : ℕ) → ((In s p → ⊥) × (In s q → ⊥) → ⊥) → In s p ⊎ In s q
    used s f = elim (In_decided s p) [
      | inl i ↦ inl i
      | inr n ↦ elim (In_decided s q) [ inl j ↦ inr j | inr m ↦ absurd (f (n, m)) ]
    ]

-- a place is the one that a number stands for, where the numbers go through the places of p and then those of q
abbrev StandsFor : List ℕ → List ℕ → ℕ → ℕ → Type 0
StandsFor p q s y = ((y < length p) × (at p y ≡ s)) ⊎ ((length p ≤ y) × (at q (y - length p) ≡ s))

-- a number stands for one place
one_place : (p q : List ℕ) (s t y : ℕ) → StandsFor p q s y → StandsFor p q t y → s ≡ t
one_place p q s t y (inl a) (inl b) = sym a.1 ∙ b.1
one_place p q s t y (inl a) (inr b) = absurd (omega (arith, a.0, b.0))
one_place p q s t y (inr a) (inl b) = absurd (omega (arith, a.0, b.0))
one_place p q s t y (inr a) (inr b) = sym a.1 ∙ b.1

-- a covered word is at most as long as the two together
pub cover_length : (σ τ w p q : List ℕ) → IsCover σ τ w p q → length w ≤ length σ + length τ
cover_length σ τ w p q c =
    let m = pigeons_by (length p + length q) (length w) (StandsFor p q)
    (λ s h. elim (c.all s h) [
      | inl i ↦ let r = at_In p s 0 i in (r.0, omega (arith, r.1), inl (r.1, r.2))
      | inr i ↦ let r = at_In q s 0 i in (length p + r.0, omega (arith, r.1), inr (omega arith, ap (at q) (omega arith) ∙ r.2))
    ])
    (one_place p q) in
    omega (arith, m, c.first.count, c.second.count)

-- ---- minimal words

-- a word without a place in which a word of each list is found still contains a word of each
still_in_both : (F G : List (List ℕ)) (w f g : List ℕ) (s : ℕ) → s < length w → AreWords F → IsWord w → In f F → In g G
    → Contains (without w s) f → Contains (without w s) g → InBoth F G (without w s)
still_in_both F G w f g s h words word i j cf cg =
    let filled = (words_each F words f i).filled in
    let n = length_without w s h in
    record {
      word = without_word w s h (omega (arith, contains_length (without w s) f cf)) word;
      has_first = (f, i, cf);
      has_second = (g, j, cg);
    }

-- a minimal word is covered by any word of the one list that it contains and a word of the other
pub minimal_covered_by : (F G : List (List ℕ)) (w f : List ℕ) → AreWords F → IsMinimalInBoth F G w → In f F → Contains w f
    → (g : List ℕ) × In g G × IsCovered f g w
minimal_covered_by F G w f words m i c =
    let b = m.both.has_second in (
      b.0,
      b.1,
      record {
        word = m.both.word;
        cover = elim (cover_or_free f b.0 w c.0 b.2.0 c.1 b.2.1) [
          | inl k ↦ (c.0, (b.2.0, k))
          | inr r ↦
              let cf = without_contains w f c.0 r.0 r.1 c.1 r.2 in
              let cg = without_contains w b.0 b.2.0 r.0 r.1 b.2.1 r.3 in
              let e = m.least (without w r.0) (still_in_both F G w f b.0 r.0 r.1 words m.both.word i b.1 cf cg) (without_contained w r.0 r.1) in
              absurd (omega (arith, length_without w r.0 r.1, ap length e))
        ];
      },
    )

-- so by a word of each list
pub minimal_covered : (F G : List (List ℕ)) (w : List ℕ) → AreWords F → IsMinimalInBoth F G w
    → (f : List ℕ) × (g : List ℕ) × In f F × In g G × IsCovered f g w
minimal_covered F G w words m =
    let a = m.both.has_first in
    let b = minimal_covered_by F G w a.0 words m a.1 a.2 in
    (a.0, b.0, a.1, b.1, b.2)

-- a word that contains a word of each list is minimal where no word without one of its places does
pub minimal_from : (F G : List (List ℕ)) (w : List ℕ) → InBoth F G w → ((s : ℕ) → s < length w → InBoth F G (without w s) → ⊥) → IsMinimalInBoth F G w
minimal_from F G w both none = record { both = both; least = λ v b c. by v b c }
  where
    again : (v : List ℕ) (X : List (List ℕ)) (s : ℕ) → Contains (without w s) v → ContainsSome v X → ContainsSome (without w s) X
    again v X s k f = (f.0, f.1, contains_trans (without w s) v f.0 k f.2)

    by : (v : List ℕ) → InBoth F G v → Contains w v → v ≡ w
    by v b c = elim (search_below (length w) (λ s. In s c.0 → ⊥) (λ s h. elim (In_decided s c.0) [ inl i ↦ inr (λ f. f i) | inr n ↦ inl n ])) [
      | inl r ↦
          let k = without_contains w v c.0 r.0 r.1 c.1 r.2 in
          let two : 2 ≤ length w = omega (arith, contains_length (without w r.0) v k, length_without w r.0 r.1, b.word.filled) in
          absurd (none r.0 r.1 (record {
            word = without_word w r.0 r.1 two both.word;
            has_first = again v F r.0 k b.has_first;
            has_second = again v G r.0 k b.has_second;
          }))
      | inr full ↦
          let le : length w ≤ length c.0 = pigeons_by (length c.0) (length w) (λ s y. at c.0 y ≡ s)
          (λ s h. elim (In_decided s c.0) [ inl i ↦ let q = at_In c.0 s 0 i in (q.0, omega (arith, q.1), q.2) | inr n ↦ absurd (full s h n) ])
          (λ s t y e d. sym e ∙ d) in
          sym (contains_equal w v both.word.numbers b.word.numbers (omega (arith, c.1.count)) c)
    ]

-- a minimal word contains no word of each list when a place is left out
pub minimal_to : (F G : List (List ℕ)) (w : List ℕ) (s : ℕ) → s < length w → InBoth F G (without w s) → IsMinimalInBoth F G w → ⊥
minimal_to F G w s h b m = omega (arith, length_without w s h, ap length (m.least (without w s) b (without_contained w s h)))
