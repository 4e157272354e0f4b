-- The words to which a word grows when a pattern is laid over it are exactly those that the two cover.
use Rattle.std.proofs.Common.{◌≡◌, ℕ, zero, suc, ◌+◌, ◌<◌, ◌≤◌, ◌⊎◌, inl, inr, ◌↔◌, true, false, cond, nat_le, nat_lt, List, [], ◌∷◌, map, length, take, refl, sym, ap, ◌∙◌, subst, arith, length-take-le, le-leb, lt-ltb}
use Rattle.std.specs.List.{list_all}
use Rattle.std.proofs.lemmas.Bool.{cases_Bool, and_parts, and_from, leb-true, ltb-true}
use Rattle.std.proofs.lemmas.List.{get_or-map, length-map, take_all, get_or-take}
use Rattle.av_perm.specs.Lists.{counting}
use Rattle.av_perm.specs.Contain.{same_order}
use Rattle.av_perm.specs.Relations.{at, IsWord, IsOccurrence, SameOrder}
use Rattle.av_perm.proofs.Membership.{In, In_at, at_In, In_flat_map, flat_map_In, append_left, append_right, counting_In, In_one, map_In}
use Rattle.av_perm.proofs.Tests.{all_from, all_to}
use Rattle.av_perm.proofs.Orders.{order_from, order_to}
use Rattle.av_perm.proofs.Pigeons.{pigeons_by}
use Rattle.av_perm.proofs.Containment.{contains_equal, all_places}
use Rattle.av_perm.proofs.ListLaws.{length_snoc}
use Rattle.av_union.specs.declared.choices.Choice.{Choice}
use Rattle.av_union.specs.declared.choices.Choice.TheVariants.{Shared, New}
use Rattle.av_union.specs.Union.{IsCovered}
use Rattle.av_union.specs.Choices.{inserted, IsChoice, place_of, word_after, choices}
use Rattle.av_union.specs.Growth.{ArePlacesOf, GrowsTo, AreBefore, places_after, begins_at, may_grow, grown, grown_by}
use Rattle.av_union.specs.Laws.{OverlaysLaw}
use Rattle.av_union.proofs.Places.{skip, skip_low, skip_up, skip_few, old_or_new}
use Rattle.av_union.proofs.InsertedEntries.{inserted_length, inserted_alike}
use Rattle.av_union.proofs.RisingPlaces.{rises_more}
use Rattle.av_union.proofs.ChoiceLists.{In_choices, choices_In}
use Rattle.av_union.proofs.WordsAfter.{word_after_word, places_placed}
use Rattle.av_union.proofs.Growth.{begun_occurs, start_grows, IsStep, next_step}

-- ---- the tests of a choice

-- where the test of the places passes, each comes before that of the choice
before_from : (q : List ℕ) (c : Choice) → list_all (λ j. nat_lt j (place_of c)) q ≡ true → AreBefore q c
before_from q c e j h = ltb-true (at q j) (place_of c) (all_from (λ j. nat_lt j (place_of c)) q e (at q j) (In_at q j 0 h))

-- and the other way round
pub before_to : (q : List ℕ) (c : Choice) → AreBefore q c → list_all (λ j. nat_lt j (place_of c)) q ≡ true
before_to q c b = all_to (λ j. nat_lt j (place_of c)) q (λ j i. let a = at_In q j 0 i in lt-ltb j (place_of c) (omega (arith, b a.0 a.1, a.2)))

-- where the entries at the places lie as the pattern's first ones, so they do
pub begins_from : (w q τ : List ℕ) → begins_at w q τ ≡ true → (length q ≤ length τ) × SameOrder (map (at w) q) (take (length q) τ)
begins_from w q τ e =
    let c = and_parts (nat_le (length q) (length τ)) (same_order (map (at w) q) (take (length q) τ)) e in
    (leb-true (length q) (length τ) c.0, order_from _ _ c.1)

-- and the other way round
pub begins_to : (w q τ : List ℕ) → length q ≤ length τ → SameOrder (map (at w) q) (take (length q) τ) → begins_at w q τ ≡ true
begins_to w q τ h o =
    and_from (nat_le (length q) (length τ)) (same_order (map (at w) q) (take (length q) τ)) (le-leb (length q) (length τ) h) (order_to _ _ o)

-- an occurrence of the pattern's first entries at the places is a test passed
pub begins_occurs : (w q τ : List ℕ) → length q ≤ length τ → IsOccurrence w (take (length q) τ) q → begins_at w q τ ≡ true
begins_occurs w q τ h o = begins_to w q τ h (record {
  count = length-map q (at w) ∙ o.count;
  alike = λ s t hs ht.
      let n = length-map q (at w) in
      let a = get_or-map (at w) q s 0 0 (omega arith) in
      let b = get_or-map (at w) q t 0 0 (omega arith) in
      let g = o.alike s t (omega (arith, o.count)) (omega (arith, o.count)) in
      (λ l. g.1 (omega arith), λ l. let k = g.0 l in omega arith);
})

-- and at rising places the other way round
occurs_begins : (w q τ : List ℕ) → ArePlacesOf w q → ((s t : ℕ) → s < t → t < length q → at q s < at q t) → begins_at w q τ ≡ true
    → IsOccurrence w (take (length q) τ) q
occurs_begins w q τ placed up e =
    let p = begins_from w q τ e in
    let n = length-map q (at w) in
    let m = length-take-le (length q) τ p.0 in
    record {
      count = sym m;
      placed = placed;
      rising = up;
      alike = λ s t hs ht.
          let a = get_or-map (at w) q s 0 0 (omega arith) in
          let b = get_or-map (at w) q t 0 0 (omega arith) in
          let g = p.1.alike s t (omega arith) (omega arith) in
          (λ l. let k = g.1 l in omega arith, λ l. g.0 (omega arith));
    }

-- where two entries lie otherwise than the pattern's, the test fails
pub lies_otherwise : (w q τ : List ℕ) (i j : ℕ) → i < length q → j < length q → ((at w (at q i) < at w (at q j)) ↔ (at τ i < at τ j) → ⊥) → false ≡ begins_at w q τ
lies_otherwise w q τ i j hi hj n = elim (cases_Bool (begins_at w q τ)) [
  | inl e ↦
      let p = begins_from w q τ e in
      let m = length-map q (at w) in
      let a = get_or-map (at w) q i 0 0 hi in
      let b = get_or-map (at w) q j 0 0 hj in
      let c = get_or-take (length q) τ i 0 hi in
      let d = get_or-take (length q) τ j 0 hj in
      let g = p.1.alike i j (omega arith) (omega arith) in
      absurd (n (λ l. let k = g.0 (omega arith) in omega arith, λ l. let k = g.1 (omega arith) in omega arith))
  | inr e ↦ sym e
]

-- and where all lie as the pattern's, it passes
pub all_alike : (w q τ : List ℕ) → length q ≤ length τ
    → ((s t : ℕ) → s < length q → t < length q → (at w (at q s) < at w (at q t)) ↔ (at τ s < at τ t)) → true ≡ begins_at w q τ
all_alike w q τ h f = sym (begins_to w q τ h (record {
  count = length-map q (at w) ∙ sym (length-take-le (length q) τ h);
  alike = λ s t hs ht.
      let m = length-map q (at w) in
      let ls : s < length q = omega arith in
      let lt : t < length q = omega arith in
      let a = get_or-map (at w) q s 0 0 ls in
      let b = get_or-map (at w) q t 0 0 lt in
      let c = get_or-take (length q) τ s 0 ls in
      let d = get_or-take (length q) τ t 0 lt in
      let g = f s t ls lt in
      (λ l. let k = g.0 (omega arith) in omega arith, λ l. let k = g.1 (omega arith) in omega arith);
}))

-- what the test of a choice says
pub may_from : (τ w q : List ℕ) (c : Choice) → may_grow τ w q c ≡ true → AreBefore q c × (begins_at (word_after w c) (places_after q c) τ ≡ true)
may_from τ w q c e =
    let a = and_parts (list_all (λ j. nat_lt j (place_of c)) q) (begins_at (word_after w c) (places_after q c) τ) e in
    (before_from q c a.0, a.1)

-- and the other way round
may_to : (τ w q : List ℕ) (c : Choice) → AreBefore q c → begins_at (word_after w c) (places_after q c) τ ≡ true → may_grow τ w q c ≡ true
may_to τ w q c b e =
    and_from (list_all (λ j. nat_lt j (place_of c)) q) (begins_at (word_after w c) (places_after q c) τ) (before_to q c b) e

-- ---- each covered word is given

-- a step passes the test
step_may : (τ w q W : List ℕ) (c : Choice) → ArePlacesOf w q → IsStep τ w q W c → may_grow τ w q c ≡ true
step_may τ w q W c placed k =
    let g = k.grows.1.1 in
    let u = word_after w c in
    let p = places_after q c in
    may_to τ w q c k.before (begins_occurs u p τ g.short (begun_occurs τ u p W k.grows.0 k.grows.1.0 g (places_placed w q c placed k.choice)))

-- a partial overlay that lacks no entry is the word to which it grows
whole_grows : (τ w q W : List ℕ) → IsWord w → length τ ≤ length q → GrowsTo τ w q W → W ≡ w
whole_grows τ w q W word h c =
    let g = c.1.1 in
    let r = c.0 in
    let le : length W ≤ length r = pigeons_by (length r) (length W) (λ s y. at r y ≡ s)
    (λ s k. elim (g.all s k) [ inl i ↦ let a = at_In r s 0 i in (a.0, omega (arith, a.1), a.2) | inr j ↦ absurd (omega (arith, j.1, j.2)) ])
    (λ s t y e d. sym e ∙ d) in
    contains_equal W w g.word.numbers word.numbers (omega (arith, g.inner.count)) (r, g.inner)

-- a word to which a partial overlay grows is listed
grows_In : (n : ℕ) (τ w q W : List ℕ) → IsWord w → ArePlacesOf w q → length q + n ≡ length τ → GrowsTo τ w q W → In W (grown n τ w q)
unfolding grown
grows_In zero τ w q W g placed e c = inl (whole_grows τ w q W g (omega arith) c)
grows_In (suc n) τ w q W g placed e c =
    let k = next_step τ w q W c g placed (omega arith) in
    let d = k.0 in
    let u = word_after w d in
    let p = places_after q d in
    let rec = grows_In n τ u p W (word_after_word w d g k.1.choice) (places_placed w q d placed k.1.choice) (omega (arith, length_snoc q (place_of d), e)) k.1.grows in
    let here : In W (grown_by n τ w q d) = subst (λ b. In W (cond b (grown n τ u p) [])) (sym (step_may τ w q W d placed k.1)) rec in
    flat_map_In (grown_by n τ w q) (choices (length w)) d W (choices_In (length w) d k.1.choice) here

-- ---- each word given is covered

-- in the word `w` stand all of `σ` and, at the places `q`, the first entries of `τ`, and nothing else
record IsPart (σ τ w q : List ℕ) : Type 0 where
  word : IsWord w
  short : length q ≤ length τ
  second : IsOccurrence w (take (length q) τ) q
  first : (p : List ℕ) × (IsOccurrence w σ p × ((s : ℕ) → s < length w → In s p ⊎ In s q))

-- an occurrence of the first word beside the places
abbrev HasFirst : List ℕ → List ℕ → List ℕ → Type 0
HasFirst σ w q = (p : List ℕ) × (IsOccurrence w σ p × ((x : ℕ) → x < length w → In x p ⊎ In x q))

-- after a choice it still stands there
first_kept : (σ w q : List ℕ) (c : Choice) → IsChoice (length w) c → AreBefore q c → HasFirst σ w q → HasFirst σ (word_after w c) (places_after q c)
first_kept σ w q (Shared s) h before f = (f.0, (f.1.0, λ x l. elim (f.1.1 x l) [ inl i ↦ inl i | inr i ↦ inr (append_left q (s ∷ []) x i) ]))
first_kept σ w q (New s v) h before f =
    let p = f.0 in
    let o = f.1.0 in
    let n = length-map p (skip s) in
    let long = inserted_length w s v h.0 in
    let is : (i : ℕ) → i < length p → at (map (skip s) p) i ≡ skip s (at p i) = λ i l. get_or-map (skip s) p i 0 0 l in (
      map (skip s) p,
      (
        record {
          count = n ∙ o.count;
          placed = λ i l. omega (arith, is i (omega arith), skip_few s (length w) (at p i) (o.placed i (omega arith)));
          rising = λ i j l m. omega (arith, is i (omega arith), is j (omega arith), skip_up s (at p i) (at p j) (o.rising i j l (omega arith)));
          alike = λ i j hi hj.
              let a = ap (at (inserted w s v)) (is i (omega (arith, o.count))) in
              let b = ap (at (inserted w s v)) (is j (omega (arith, o.count))) in
              let g = inserted_alike w s v (at p i) (at p j) h.0 (o.placed i (omega (arith, o.count))) (o.placed j (omega (arith, o.count))) in
              let m = o.alike i j hi hj in
              (λ l. let k = g.1 (m.0 l) in omega arith, λ l. m.1 (g.0 (omega arith)));
        },
        λ x l. elim (old_or_new s (length w) x h.0 (omega arith)) [
          | inl e ↦ inr (append_right q (s ∷ []) x (inl e))
          | inr r ↦ elim (f.1.1 r.0 r.1) [
            | inl i ↦ inl (subst (λ y. In y (map (skip s) p)) r.2 (map_In (skip s) p r.0 i))
            | inr i ↦
                let a = at_In q r.0 0 i in
                let same : r.0 ≡ x = sym (skip_low s r.0 (omega (arith, before a.0 a.1, a.2))) ∙ r.2 in
                inr (append_left q (s ∷ []) x (subst (λ y. In y q) same i))
          ]
        ],
      ),
    )

-- what grows by a choice that passes the test is of this kind
part_grows : (σ τ w q : List ℕ) (c : Choice) → IsPart σ τ w q → IsChoice (length w) c → may_grow τ w q c ≡ true
    → IsPart σ τ (word_after w c) (places_after q c)
part_grows σ τ w q c p h e =
    let k = may_from τ w q c e in
    let u = word_after w c in
    let r = places_after q c in
    record {
      word = word_after_word w c p.word h;
      short = (begins_from u r τ k.1).0;
      second = occurs_begins u r τ (places_placed w q c p.second.placed h) (rises_more q (place_of c) p.second.rising k.0) k.1;
      first = first_kept σ w q c h k.0 p.first;
    }

-- where no entry lacks the word is covered
part_whole : (σ τ w q : List ℕ) → IsPart σ τ w q → length τ ≤ length q → IsCovered σ τ w
part_whole σ τ w q p h = record {
  word = p.word;
  cover = (
    p.first.0,
    (
      q,
      record {
        first = p.first.1.0;
        second = subst (λ (v : List ℕ). IsOccurrence w v q) (take_all (length q) τ h) p.second;
        all = p.first.1.1;
      },
    ),
  );
}

-- so each word that is listed is covered
In_covered : (n : ℕ) (σ τ w q W : List ℕ) → IsPart σ τ w q → length q + n ≡ length τ → In W (grown n τ w q) → IsCovered σ τ W
unfolding grown
In_covered zero σ τ w q W p e i = subst (λ (v : List ℕ). IsCovered σ τ v) (sym (In_one W w i)) (part_whole σ τ w q p (omega arith))
In_covered (suc n) σ τ w q W p e i =
    let a = In_flat_map (grown_by n τ w q) (choices (length w)) W i in
    let c = a.0 in
    let h = In_choices (length w) c a.1 in
    let u = word_after w c in
    let r = places_after q c in
    elim (cases_Bool (may_grow τ w q c)) [
      | inl y ↦ In_covered n σ τ u r W (part_grows σ τ w q c p h y) (omega (arith, length_snoc q (place_of c), e)) (subst (λ b. In W (cond b (grown n τ u r) [])) y a.2)
      | inr z ↦ absurd (subst (λ b. In W (cond b (grown n τ u r) [])) z a.2)
    ]

-- ---- from the first word on

-- the first word alone, with no place chosen
start_part : (σ τ : List ℕ) → IsWord σ → IsPart σ τ σ []
start_part σ τ g = record {
  word = g;
  short = omega arith;
  second = record { count = refl; placed = λ j h. absurd (omega arith); rising = λ a b l h. absurd (omega arith); alike = λ a b l h. absurd (omega arith) };
  first = (counting 0 (length σ), (all_places σ, λ x h. inl (counting_In (length σ) 0 x (omega arith) (omega arith))));
}

-- what the first word grows to is exactly what is covered
pub overlays_law : OverlaysLaw
overlays_law σ τ w g = (
  λ i. In_covered (length τ) σ τ σ [] w (start_part σ τ g) (omega arith) i,
  λ c. grows_In (length τ) τ σ [] w g (λ j h. absurd (omega arith)) (omega arith) (start_grows σ τ w c),
)
