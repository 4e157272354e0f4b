-- Partial overlays from which no word of the basis grows: those that contain an earlier word, and those with a place to spare.
use Rattle.std.proofs.Common.{◌≡◌, ℕ, ◌<◌, ◌≤◌, inl, inr, List, length, sym, ap, ◌∙◌, subst, arith}
use Rattle.std.specs.List.{remove}
use Rattle.std.proofs.lemmas.Bool.{cases_lt}
use Rattle.av_perm.specs.Relations.{at, IsOccurrence}
use Rattle.av_perm.proofs.Membership.{In, In_at, at_In}
use Rattle.av_perm.proofs.Containment.{contains_trans, contains_pattern, contains_length}
use Rattle.av_union.specs.Union.{ContainsSome, InBoth}
use Rattle.av_union.specs.Growth.{ArePlacesOf, Grows}
use Rattle.av_union.specs.Gather.{without, GrowsNothing, HasSpare}
use Rattle.av_union.proofs.Places.{skip, skip_up, skip_not, skip_few, length_remove, at_remove}
use Rattle.av_union.proofs.WithoutPlaces.{length_without, without_word, without_contained, without_contains}
use Rattle.av_union.proofs.RisingPlaces.{rises_once}

-- all that grows from a word that contains an earlier one contains it
pub early_nothing : (E F G : List (List ℕ)) (w q : List ℕ) → ContainsSome w E → GrowsNothing E F G w q
early_nothing E F G w q c W g s i k = s.later c.0 c.1 (contains_trans W w c.0 (k.0, k.1.1.inner) c.2)

-- a word without a place occurs in a longer word at the other places
occurrence_without : (W w r : List ℕ) (x : ℕ) → IsOccurrence W w r → x < length w → IsOccurrence W (remove w x) (remove r x)
occurrence_without W w r x o h =
    let n = length_remove w x h in
    let m = length_remove r x (omega (arith, o.count)) in
    let is : (i : ℕ) → at (remove r x) i ≡ at r (skip x i) = λ i. at_remove r x i (omega (arith, o.count)) in
    let few : (i : ℕ) → i < length (remove w x) → skip x i < length w = λ i l. omega (arith, skip_few x (length (remove w x)) i l) in
    record {
      count = omega (arith, o.count);
      placed = λ i l. omega (arith, is i, o.placed (skip x i) (omega (arith, few i (omega (arith, o.count)), o.count)));
      rising = λ i j l k. omega (arith, is i, is j, o.rising (skip x i) (skip x j) (skip_up x i j l) (omega (arith, few j (omega (arith, o.count)), o.count)));
      alike = λ i j hi hj.
          let a = at_remove w x i h in
          let b = at_remove w x j h in
          let c = ap (at W) (is i) in
          let d = ap (at W) (is j) in
          let g = o.alike (skip x i) (skip x j) (few i hi) (few j hj) in
          (λ l. let k = g.0 (omega arith) in omega arith, λ l. let k = g.1 (omega arith) in omega arith);
    }

-- that place is none of them
not_without : (W w r : List ℕ) (x : ℕ) → IsOccurrence W w r → x < length r → In (at r x) (remove r x) → ⊥
not_without W w r x o h m =
    let c = at_In (remove r x) (at r x) 0 m in
    let n = length_remove r x h in
    let e = rises_once r (skip x c.0) x o.rising (omega (arith, skip_few x (length (remove r x)) c.0 c.1)) h (sym (at_remove r x c.0 h) ∙ c.2) in
    skip_not x c.0 e

-- a place that comes before one chosen, and is not chosen, is none of the pattern's places in a word to which the partial overlay grows
spare_free : (τ w q W r Q : List ℕ) (x y : ℕ) → Grows τ w q W r Q → ArePlacesOf w q → x < y → In y q → (In x q → ⊥) → In (at r x) Q → ⊥
spare_free τ w q W r Q x y k placed l i out j =
    let a = at_In q y 0 i in
    let b = at_In Q (at r x) 0 j in
    let o = k.inner in
    let hy : y < length r = omega (arith, a.2, placed a.0 a.1, o.count) in
    let up = o.rising x y l hy in
    let there = k.same a.0 a.1 in
    let same_y = ap (at r) a.2 in
    elim (cases_lt b.0 (length q)) [
      | inl m ↦
          let e = rises_once r (at q b.0) x o.rising (omega (arith, placed b.0 m, o.count)) (omega arith) (k.same b.0 m ∙ b.2) in
          out (subst (λ z. In z q) e (In_at q b.0 0 m))
      | inr m ↦ let more = k.second.rising a.0 b.0 (omega (arith, a.1)) b.1 in omega (arith, b.2, a.2)
    ]

-- so where a word of the first list is there without it, the word to which the partial overlay grows is not minimal
pub spare_nothing : (E F G : List (List ℕ)) (w q : List ℕ) → ArePlacesOf w q → HasSpare F w q → GrowsNothing E F G w q
spare_nothing E F G w q placed h W g s i k = by k.0 k.1.0 k.1.1
  where
    by : (r Q : List ℕ) → Grows g w q W r Q → ⊥
    by r Q k =
        let x = h.spare.0 in
        let f = h.spare.5 in
        let a = at_In q h.spare.1 0 h.spare.3 in
        let hx : x < length w = omega (arith, h.spare.2, a.2, placed a.0 a.1) in
        let hr : x < length r = omega (arith, k.inner.count) in
        let z = at r x in
        let hz : z < length W = k.inner.placed x hr in
        let holds_g = without_contains W g Q z hz k.second (spare_free g w q W r Q x h.spare.1 k placed h.spare.2 h.spare.3 h.spare.4) in
        let holds_w = without_contains W (remove w x) (remove r x) z hz (occurrence_without W w r x k.inner hx) (not_without W w r x k.inner hr) in
        let holds_f = contains_trans (without W z) (without w x) f.0 ((contains_pattern (without W z) (remove w x)).1 holds_w) f.2 in
        let two : 2 ≤ length W = omega (arith, contains_length W w (r, k.inner), a.1, placed a.0 a.1, a.2, h.spare.2) in
        let both : InBoth F G (without W z) = record { word = without_word W z hz two k.word; has_first = (f.0, f.1, holds_f); has_second = (g, i, holds_g) } in
        let e = s.minimal.least (without W z) both (without_contained W z hz) in
        omega (arith, length_without W z hz, ap length e)
