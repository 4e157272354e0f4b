-- The entries of a partial overlay in the word to which it grows, and a new entry beside them.
use Rattle.std.proofs.Common.{◌≡◌, ℕ, suc, ◌*◌, ◌<◌, ◌≤◌, ◌≢◌, ◌⊎◌, inl, inr, ◌↔◌, List, map, length, sym, ap, ◌∙◌, subst, arith}
use Rattle.std.specs.List.{insert}
use Rattle.std.proofs.lemmas.Bool.{cases_lt, cases_eq}
use Rattle.std.proofs.lemmas.List.{get_or-map, length-map}
use Rattle.av_perm.specs.Relations.{at, IsWord, IsOccurrence, SameOrder, smaller, pattern_of}
use Rattle.av_perm.proofs.Membership.{In, In_at}
use Rattle.av_perm.proofs.Patterns.{pattern_order, pattern_same, pattern_at, word_pattern, smaller_mono, smaller_more}
use Rattle.av_perm.proofs.Orders.{order_join}
use Rattle.av_union.specs.Choices.{inserted}
use Rattle.av_union.proofs.Places.{skip, skip_low, skip_high, skip_up, length_insert, at_insert_new, at_insert_old, old_or_new, map-insert, insert_order}
use Rattle.av_union.proofs.RisingPlaces.{IsSeat}
use Rattle.av_union.proofs.InsertedEntries.{doubled, spread, doubled_at, doubled_length, inserted_length}

-- ---- the entries of a partial overlay in the word to which it grows

-- the entries at the places
abbrev pub entries : List ℕ → List ℕ → List ℕ
entries W r = map (at W) r

-- one of them
entries_at : (W r : List ℕ) (i : ℕ) → i < length r → at (entries W r) i ≡ at W (at r i)
entries_at W r i h = get_or-map (at W) r i 0 0 h

-- those of an occurrence lie as the word does
inner_order : (W w r : List ℕ) → IsOccurrence W w r → SameOrder w (entries W r)
inner_order W w r o = record {
  count = sym o.count ∙ sym (length-map r (at W));
  alike = λ i j hi hj.
      let a = entries_at W r i (omega (arith, o.count)) in
      let b = entries_at W r j (omega (arith, o.count)) in
      let g = o.alike i j hi hj in
      (λ l. let k = g.0 l in omega arith, λ l. g.1 (omega arith));
}

-- and so do the doubled entries of the word
doubled_order : (w xs : List ℕ) → SameOrder w xs → SameOrder (doubled w) xs
doubled_order w xs o = record {
  count = doubled_length w ∙ o.count;
  alike = λ i j hi hj.
      let n = doubled_length w in
      let a = doubled_at w i (omega arith) in
      let b = doubled_at w j (omega arith) in
      let g = o.alike i j (omega arith) (omega arith) in
      (λ l. g.0 (omega arith), λ l. let k = g.1 l in omega arith);
}

-- an entry of the word is one more than how many of its entries are less in the longer word
inner_at : (W w r : List ℕ) (i : ℕ) → IsWord w → IsOccurrence W w r → i < length w → at w i ≡ suc (smaller (at W (at r i)) (entries W r))
inner_at W w r i g o h =
    let same : w ≡ pattern_of (entries W r) = sym (word_pattern w g.numbers) ∙ pattern_same w (entries W r) (inner_order W w r o) in
    ap (λ (l : List ℕ). at l i) same ∙ pattern_at (entries W r) i (omega (arith, o.count, length-map r (at W)))
    ∙ ap (λ x. suc (smaller x (entries W r))) (entries_at W r i (omega (arith, o.count)))

-- how many of them lie below the entry at another place
abbrev pub lower : List ℕ → List ℕ → ℕ → ℕ
lower W r y = smaller (at W y) (entries W r)

-- ---- a new entry

-- an odd number beside the doubled entries lies to them as the entry at another place of the longer word lies to theirs
new_lies : (W w r : List ℕ) (y i : ℕ) → IsWord W → IsWord w → IsOccurrence W w r → y < length W → (In y r → ⊥) → i < length (doubled w)
    → ((suc (2 * lower W r y) < at (doubled w) i) ↔ (at W y < at (entries W r) i)) × ((at (doubled w) i < suc (2 * lower W r y)) ↔ (at (entries W r) i < at W y))
new_lies W w r y i big g o inside out h =
    let hw : i < length w = omega (arith, doubled_length w) in
    let hr : i < length r = omega (arith, o.count) in
    let d = doubled_at w i hw in
    let e = entries_at W r i hr in
    let n = inner_at W w r i g o hw in
    let z = at r i in
    let hz : z < length W = o.placed i hr in
    let other : y ≢ z = λ q. out (subst (λ k. In k r) (sym q) (In_at r i 0 hr)) in
    let differ : at W y ≢ at W z = λ q. elim (cases_lt y z) [
      | inl l ↦ big.numbers.apart y z l hz q
      | inr l ↦ big.numbers.apart z y (omega (arith, other)) inside (sym q)
    ] in
    elim (cases_lt (at W z) (at W y)) [
      | inl l ↦
          let there = subst (λ k. In k (entries W r)) e (In_at (entries W r) i 0 (omega (arith, length-map r (at W)))) in
          let m = smaller_more (entries W r) (at W z) (at W y) there l in
          ((λ k. absurd (omega arith), λ k. absurd (omega arith)), (λ k. omega arith, λ k. omega arith))
      | inr l ↦
          let m = smaller_mono (entries W r) (at W y) (at W z) l in
          ((λ k. omega (arith, differ), λ k. omega arith), (λ k. absurd (omega arith), λ k. absurd (omega arith)))
    ]

-- so the word with that entry lies as the entries of the longer word
new_order : (W w r : List ℕ) (y s : ℕ) → IsWord W → IsWord w → IsOccurrence W w r → y < length W → (In y r → ⊥) → s ≤ length r
    → SameOrder (inserted w s (lower W r y)) (entries W (insert r s y))
new_order W w r y s big g o inside out h =
    let v = lower W r y in
    let n = doubled_length w in
    let put = insert_order s (suc (2 * v)) (at W y) (doubled w) (entries W r) (omega (arith, o.count)) (doubled_order w (entries W r) (inner_order W w r o))
    (λ i k. new_lies W w r y i big g o inside out k) in
    subst (λ (l : List ℕ). SameOrder (inserted w s v) l) (sym (map-insert (at W) r s y))
    (order_join (inserted w s v) (spread w s v) (insert (entries W r) s (at W y)) (pattern_order (spread w s v)) put)

-- and it occurs there
pub new_inner : (W w r : List ℕ) (y s : ℕ) → IsWord W → IsWord w → IsOccurrence W w r → y < length W → (In y r → ⊥) → IsSeat r y (length r) s
    → IsOccurrence W (inserted w s (lower W r y)) (insert r s y)
new_inner W w r y s big g o inside out seat = record {
  count = omega (arith, n, o.count, inserted_length w s (lower W r y) (omega (arith, seat.within, o.count)));
  placed = λ a h. placed a (old_or_new s (length r) a seat.within (omega (arith, n)));
  rising = λ a b h k. up a b h (old_or_new s (length r) a seat.within (omega (arith, n))) (old_or_new s (length r) b seat.within (omega (arith, n)));
  alike = λ a b ha hb.
      let q = new_order W w r y s big g o inside out seat.within in
      let m = q.count in
      let long = length-map (insert r s y) (at W) in
      let x = entries_at W (insert r s y) a (omega arith) in
      let z = entries_at W (insert r s y) b (omega arith) in
      let f = q.alike a b ha hb in
      (λ l. let k = f.0 l in omega arith, λ l. f.1 (omega arith));
}
  where
    n : length (insert r s y) ≡ suc (length r)
    n = length_insert r s y seat.within

    here : (a : ℕ) → a ≡ s → at (insert r s y) a ≡ y
    here a e = ap (at (insert r s y)) e ∙ at_insert_new r s y seat.within

    there : (a i : ℕ) → skip s i ≡ a → at (insert r s y) a ≡ at r i
    there a i e = ap (at (insert r s y)) (sym e) ∙ at_insert_old r s y i seat.within

    placed : (a : ℕ) → (a ≡ s) ⊎ ((i : ℕ) × (i < length r) × (skip s i ≡ a)) → at (insert r s y) a < length W
    placed a (inl e) = omega (arith, here a e)
    placed a (inr q) = omega (arith, there a q.0 q.2, o.placed q.0 q.1)

    up : (a b : ℕ) → a < b → (a ≡ s) ⊎ ((i : ℕ) × (i < length r) × (skip s i ≡ a)) → (b ≡ s) ⊎ ((i : ℕ) × (i < length r) × (skip s i ≡ b))
        → at (insert r s y) a < at (insert r s y) b
    up a b h (inl e) (inl f) = absurd (omega arith)
    up a b h (inl e) (inr q) = elim (cases_lt q.0 s) [
      | inl l ↦ absurd (omega (arith, skip_low s q.0 l, q.2))
      | inr l ↦ omega (arith, here a e, there b q.0 q.2, seat.greater q.0 l q.1)
    ]
    up a b h (inr q) (inl f) = elim (cases_lt q.0 s) [
      | inl l ↦ omega (arith, there a q.0 q.2, here b f, seat.less q.0 l)
      | inr l ↦ absurd (omega (arith, skip_high s q.0 l, q.2))
    ]
    up a b h (inr q) (inr t) = elim (cases_lt q.0 t.0) [
      | inl l ↦ omega (arith, there a q.0 q.2, there b t.0 t.2, o.rising q.0 t.0 l t.1)
      | inr l ↦ elim (cases_eq q.0 t.0) [
        | inl e ↦ absurd (omega (arith, ap (skip s) e, q.2, t.2))
        | inr ne ↦ absurd (omega (arith, skip_up s t.0 q.0 (omega (arith, ne)), q.2, t.2))
      ]
    ]
