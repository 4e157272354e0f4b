-- Containment: reflexive, transitive, decided, by relative order alone.
use Rattle.std.proofs.Common.{◌≡◌, ℕ, zero, suc, ◌+◌, ◌-◌, ◌<◌, ◌≤◌, ◌⊎◌, inl, inr, ◌↔◌, List, map, length, refl, sym, ap, ◌∙◌, arith}
use Rattle.std.proofs.lemmas.Bool.{cases_Bool}
use Rattle.std.proofs.lemmas.List.{get_or-map, length-map}
use Rattle.av_perm.specs.Lists.{counting}
use Rattle.av_perm.specs.Contain.{contains}
use Rattle.av_perm.specs.Relations.{at, IsOneToLength, IsOccurrence, Contains, SameOrder, pattern_of}
use Rattle.av_perm.proofs.Occurrences.{contains_from, contains_to}
use Rattle.av_perm.proofs.RisingLists.{length_counting, counting_at}
use Rattle.av_perm.proofs.Orders.{order_back}
use Rattle.av_perm.specs.Laws.{PatternLaw}
use Rattle.av_perm.proofs.NoRepeats.{apart_from_once}
use Rattle.av_perm.proofs.Patterns.{length_pattern, pattern_order, pattern_same, pattern_word, word_pattern, order_equal}

-- either contained or avoided
pub contains_decided : (σ τ : List ℕ) → Contains σ τ ⊎ (Contains σ τ → ⊥)
contains_decided σ τ = elim (cases_Bool (contains σ τ)) [
  | inl e ↦ inl (contains_from σ τ e)
  | inr e ↦ inr (λ c. let k = contains_to σ τ c in cc)
]

-- all places of a word in turn
pub all_places : (w : List ℕ) → IsOccurrence w w (counting 0 (length w))
all_places w =
    let n = length_counting (length w) 0 in
    let is : (s : ℕ) → s < length w → at (counting 0 (length w)) s ≡ s = λ s h. omega (arith, counting_at (length w) 0 s h) in
    record {
      count = n;
      placed = λ s h. omega (arith, is s (omega arith));
      rising = λ s t h k. omega (arith, is s (omega arith), is t (omega arith));
      alike = λ s t h k. let a = ap (at w) (is s h) in let b = ap (at w) (is t k) in (λ l. omega arith, λ l. omega arith);
    }

-- a list contains itself
pub contains_same : (w : List ℕ) → Contains w w
contains_same w = (counting 0 (length w), all_places w)

-- a word of length 1 is in each that is not empty
pub contains_one : (σ τ : List ℕ) → 1 ≤ length σ → length τ ≡ 1 → Contains σ τ
contains_one σ τ h e = (
  counting 0 1,
  record {
    count = sym e;
    placed = λ s k. placed s k;
    rising = λ s t l k. absurd (omega arith);
    alike = λ s t k l.
        let a : s ≡ 0 = omega arith in
        let b : t ≡ 0 = omega arith in
        let x = ap (at τ) (a ∙ sym b) in
        let y = ap (λ (i : ℕ). at σ (at (counting 0 1) i)) (a ∙ sym b) in
        (λ m. absurd (omega arith), λ m. absurd (omega arith));
  },
)
  where
    placed : (s : ℕ) → s < length (counting 0 1) → at (counting 0 1) s < length σ
    placed zero k = omega arith
    placed (suc s) k = absurd (omega arith)

-- what a contained list contains is contained
pub contains_trans : (σ τ ρ : List ℕ) → Contains σ τ → Contains τ ρ → Contains σ ρ
contains_trans σ τ ρ c d =
    let o = c.1 in
    let u = d.1 in
    let n = length-map d.0 (at c.0) in
    let here : (s : ℕ) → s < length d.0 → at (map (at c.0) d.0) s ≡ at c.0 (at d.0 s) = λ s h. get_or-map (at c.0) d.0 s 0 0 h in
    let within : (s : ℕ) → s < length d.0 → at d.0 s < length c.0 = λ s h. let a = u.placed s h in omega (arith, o.count) in (
      map (at c.0) d.0,
      record {
        count = omega (arith, u.count);
        placed = λ s h. let a = here s (omega arith) in let b = o.placed (at d.0 s) (within s (omega arith)) in omega arith;
        rising = λ s t h k. let a = here s (omega arith) in let b = here t (omega arith) in let m = o.rising (at d.0 s) (at d.0 t) (u.rising s t h (omega arith)) (within t (omega arith)) in omega arith;
        alike = λ s t hs ht.
            let a = ap (at σ) (here s (omega (arith, u.count))) in
            let b = ap (at σ) (here t (omega (arith, u.count))) in
            let g = u.alike s t hs ht in
            let m = o.alike (at d.0 s) (at d.0 t) (u.placed s (omega (arith, u.count))) (u.placed t (omega (arith, u.count))) in
            (λ l. let k = m.0 (g.0 l) in omega arith, λ l. g.1 (m.1 (omega arith)));
      },
    )

-- what is in the same relative order is contained alike, and contains alike
pub contains_alike : (σ τ τ' : List ℕ) → SameOrder τ τ' → Contains σ τ → Contains σ τ'
contains_alike σ τ τ' r c =
    let o = c.1 in (
      c.0,
      record {
        count = o.count ∙ r.count;
        placed = o.placed;
        rising = o.rising;
        alike = λ s t h k.
            let g = o.alike s t (omega (arith, r.count)) (omega (arith, r.count)) in
            let m = r.alike s t (omega (arith, r.count)) (omega (arith, r.count)) in
            (λ l. g.0 (m.1 l), λ l. m.0 (g.1 l));
      },
    )

-- what is in the same relative order contains alike
pub alike_contains : (σ σ' τ : List ℕ) → SameOrder σ σ' → Contains σ τ → Contains σ' τ
alike_contains σ σ' τ r c =
    let o = c.1 in (
      c.0,
      record {
        count = o.count;
        placed = λ s h. omega (arith, o.placed s h, r.count);
        rising = o.rising;
        alike = λ s t h k.
            let g = o.alike s t h k in
            let m = r.alike (at c.0 s) (at c.0 t) (o.placed s (omega (arith, o.count))) (o.placed t (omega (arith, o.count))) in
            (λ l. m.0 (g.0 l), λ l. g.1 (m.1 l));
      },
    )

-- being contained depends on relative order alone
pub contained_alike : (σ τ τ' : List ℕ) → SameOrder τ τ' → Contains σ τ ↔ Contains σ τ'
contained_alike σ τ τ' r = (contains_alike σ τ τ' r, contains_alike σ τ' τ (order_back τ τ' r))

-- containing depends on relative order alone
pub containing_alike : (σ σ' τ : List ℕ) → SameOrder σ σ' → Contains σ τ ↔ Contains σ' τ
containing_alike σ σ' τ r = (alike_contains σ σ' τ r, alike_contains σ' σ τ (order_back σ σ' r))

-- numbers are contained where their pattern is
pub contains_pattern : (σ w : List ℕ) → Contains σ (pattern_of w) ↔ Contains σ w
contains_pattern σ w = contained_alike σ (pattern_of w) w (pattern_order w)

-- increasing places: each is at least its number, and at most as far from the end
places_floor : (p : List ℕ) → ((s t : ℕ) → s < t → t < length p → at p s < at p t) → (s : ℕ) → s < length p → s ≤ at p s
places_floor p r zero k = omega arith
places_floor p r (suc s) k = omega (arith, places_floor p r s (omega arith), r s (suc s) (omega arith) k)

-- a place is at most as far from the end as its number
places_roof : (p : List ℕ) (n : ℕ) → ((s : ℕ) → s < length p → at p s < n) → ((s t : ℕ) → s < t → t < length p → at p s < at p t) → length p ≡ n
    → (d s : ℕ) → s + d + 1 ≡ n → at p s + d < n
places_roof p n pl r e zero s q = omega (arith, pl s (omega arith))
places_roof p n pl r e (suc d) s q = omega (arith, places_roof p n pl r e d (suc s) (omega arith), r s (suc s) (omega arith) (omega arith))

-- a pattern is no longer than the word
pub contains_length : (σ τ : List ℕ) → Contains σ τ → length τ ≤ length σ
contains_length σ τ c = by (length c.0) refl
  where
    by : (n : ℕ) → length c.0 ≡ n → length τ ≤ length σ
    by zero e = omega (arith, c.1.count)
    by (suc n) e = omega (arith, c.1.count, places_floor c.0 c.1.rising n (omega arith), c.1.placed n (omega arith))

-- and a word as long is the word itself
pub contains_equal : (σ τ : List ℕ) → IsOneToLength σ → IsOneToLength τ → length σ ≤ length τ → Contains σ τ → σ ≡ τ
contains_equal σ τ w v h c =
    let o = c.1 in
    let long : length c.0 ≡ length σ = omega (arith, o.count, contains_length σ τ c) in
    let there : (s : ℕ) → s < length σ → at c.0 s ≡ s = λ s k.
    omega (arith, places_floor c.0 o.rising s (omega arith), places_roof c.0 (length σ) o.placed o.rising long (length σ - 1 - s) s (omega arith)) in
    order_equal σ τ w v (record {
      count = omega (arith, o.count);
      alike = λ s t hs ht.
          let g = o.alike s t (omega (arith, o.count)) (omega (arith, o.count)) in
          let a = ap (at σ) (there s hs) in
          let b = ap (at σ) (there t ht) in
          (λ l. g.1 (omega arith), λ l. let x = g.0 l in omega arith);
    })

-- the laws of patterns together
pub pattern_law : PatternLaw
pattern_law = record {
  pattern = λ xs h o. record {
    word = record { numbers = pattern_word xs (apart_from_once xs o); filled = omega (arith, length_pattern xs) };
    order = pattern_order xs;
  };
  only = λ xs π i. sym (word_pattern π i.word.numbers) ∙ pattern_same π xs i.order;
  own = λ w i. word_pattern w i.numbers;
  contained = contained_alike;
  containing = containing_alike;
  pattern_contained = contains_pattern;
}
