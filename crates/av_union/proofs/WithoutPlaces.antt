-- A word without one of its places: what is left of it, and what is still contained in it.
use Rattle.std.proofs.Common.{◌≡◌, ℕ, suc, ◌<◌, ◌≤◌, ◌≢◌, ◌⊎◌, inl, inr, List, [], ◌∷◌, map, length, sym, ap, ◌∙◌, subst, arith}
use Rattle.std.specs.List.{remove}
use Rattle.std.proofs.lemmas.Bool.{cases_eq}
use Rattle.std.proofs.lemmas.List.{get_or-map, length-map}
use Rattle.av_perm.specs.Lists.{counting}
use Rattle.av_perm.specs.Relations.{at, IsWord, IsOccurrence, Contains}
use Rattle.av_perm.proofs.Membership.{In, In_at}
use Rattle.av_perm.proofs.NoRepeats.{IsApart}
use Rattle.av_perm.proofs.RisingLists.{length_counting, counting_at}
use Rattle.av_perm.proofs.Patterns.{length_pattern, pattern_order, pattern_word}
use Rattle.av_perm.proofs.Containment.{contains_pattern, containing_alike}
use Rattle.av_union.specs.Gather.{without}
use Rattle.av_union.proofs.Places.{skip, skip_up, skip_few, unskip, skip_unskip, unskip_up, unskip_few, length_remove, at_remove}

-- a number is in a list or not
pub In_decided : (s : ℕ) (p : List ℕ) → In s p ⊎ (In s p → ⊥)
In_decided s [] = inr (λ i. i)
In_decided s (x ∷ p) = elim (cases_eq s x) [
  | inl e ↦ inl (inl e)
  | inr ne ↦ elim (In_decided s p) [
    | inl i ↦ inl (inr i)
    | inr n ↦ inr (λ i. elim i [ inl e ↦ ne e | inr j ↦ n j ])
  ]
]

-- the first places but one, of a list of n numbers: each with its place in turn
pub skipped_at : (s n i : ℕ) → i < n → at (map (skip s) (counting 0 n)) i ≡ skip s i
skipped_at s n i l =
    get_or-map (skip s) (counting 0 n) i 0 0 (omega (arith, length_counting n 0)) ∙ ap (skip s) (omega (arith, counting_at n 0 i l))

-- and they are n
pub skipped_count : (s n : ℕ) → length (map (skip s) (counting 0 n)) ≡ n
skipped_count s n = length-map (counting 0 n) (skip s) ∙ length_counting n 0

-- the entries but one occur in the word
removed_contained : (w : List ℕ) (s : ℕ) → s < length w → Contains w (remove w s)
removed_contained w s h =
    let n = length (remove w s) in
    let long = length_remove w s h in
    let is = skipped_at s n in
    let count = skipped_count s n in (
      map (skip s) (counting 0 n),
      record {
        count = count;
        placed = λ i l. omega (arith, is i (omega arith), skip_few s n i (omega arith));
        rising = λ i j l m. omega (arith, is i (omega arith), is j (omega arith), skip_up s i j l);
        alike = λ i j l m.
            let a = at_remove w s i h ∙ ap (at w) (sym (is i l)) in
            let b = at_remove w s j h ∙ ap (at w) (sym (is j m)) in
            (λ k. omega arith, λ k. omega arith);
      },
    )

-- what occurs at other places still occurs without the place
removed_contains : (w τ p : List ℕ) (s : ℕ) → s < length w → IsOccurrence w τ p → (In s p → ⊥) → Contains (remove w s) τ
removed_contains w τ p s h o free =
    let long = length_remove w s h in
    let n = length-map p (unskip s) in
    let is : (i : ℕ) → i < length p → at (map (unskip s) p) i ≡ unskip s (at p i) = λ i l. get_or-map (unskip s) p i 0 0 l in
    let ne : (i : ℕ) → i < length p → at p i ≢ s = λ i l e. free (subst (λ t. In t p) e (In_at p i 0 l)) in
    let entry : (i : ℕ) → i < length p → at (remove w s) (at (map (unskip s) p) i) ≡ at w (at p i) = λ i l.
    ap (at (remove w s)) (is i l) ∙ at_remove w s (unskip s (at p i)) h ∙ ap (at w) (skip_unskip s (at p i) (ne i l)) in (
      map (unskip s) p,
      record {
        count = n ∙ o.count;
        placed = λ i l.
            let few = unskip_few s (at p i) (length (remove w s)) (ne i (omega arith)) (omega (arith, o.placed i (omega arith))) (omega arith) in
            omega (arith, is i (omega arith));
        rising = λ i j l m.
            let up = unskip_up s (at p i) (at p j) (ne i (omega arith)) (ne j (omega arith)) (o.rising i j l (omega arith)) in
            omega (arith, is i (omega arith), is j (omega arith));
        alike = λ i j l m.
            let a = entry i (omega (arith, o.count)) in
            let b = entry j (omega (arith, o.count)) in
            let g = o.alike i j l m in
            (λ k. let q = g.0 k in omega arith, λ k. g.1 (omega arith));
      },
    )

-- the entries that are left differ
pub removed_apart : (w : List ℕ) (s : ℕ) → s < length w → IsWord w → IsApart (remove w s)
removed_apart w s h g i j l m e =
    let n = length_remove w s h in
    g.numbers.apart (skip s i) (skip s j) (skip_up s i j l) (omega (arith, skip_few s (length (remove w s)) j m))
    (sym (at_remove w s i h) ∙ e ∙ at_remove w s j h)

-- what is left is shorter by one
pub length_without : (w : List ℕ) (s : ℕ) → s < length w → suc (length (without w s)) ≡ length w
length_without w s h = ap suc (length_pattern (remove w s)) ∙ length_remove w s h

-- it is a word where an entry is left
pub without_word : (w : List ℕ) (s : ℕ) → s < length w → 2 ≤ length w → IsWord w → IsWord (without w s)
without_word w s h two g = record { numbers = pattern_word (remove w s) (removed_apart w s h g); filled = omega (arith, length_without w s h) }

-- the word contains it
pub without_contained : (w : List ℕ) (s : ℕ) → s < length w → Contains w (without w s)
without_contained w s h = (contains_pattern w (remove w s)).1 (removed_contained w s h)

-- it contains what occurs at other places
pub without_contains : (w τ p : List ℕ) (s : ℕ) → s < length w → IsOccurrence w τ p → (In s p → ⊥) → Contains (without w s) τ
without_contains w τ p s h o free = (containing_alike (without w s) (remove w s) τ (pattern_order (remove w s))).1 (removed_contains w τ p s h o free)
