-- A word with one entry more: it is a word, longer by one, and the other entries lie in it as before.
use Rattle.std.proofs.Common.{◌≡◌, ℕ, suc, ◌+◌, ◌*◌, ◌<◌, ◌≤◌, ◌⊎◌, inl, inr, ◌↔◌, true, List, map, length, take, refl, sym, ap, ◌∙◌, arith}
use Rattle.std.specs.List.{insert}
use Rattle.std.proofs.lemmas.Bool.{cases_lt, cases_eq}
use Rattle.std.proofs.lemmas.List.{get_or-map, length-map, take_all}
use Rattle.av_perm.specs.Lists.{counting}
use Rattle.av_perm.specs.Word.{is_perm, is_distinct}
use Rattle.av_perm.specs.Relations.{at, IsWord, Contains}
use Rattle.av_perm.proofs.NoRepeats.{IsApart, once_from_apart}
use Rattle.av_perm.proofs.WordTests.{once_distinct}
use Rattle.av_perm.proofs.Patterns.{length_pattern, pattern_order, pattern_word}
use Rattle.av_perm.proofs.PermWords.{perm_word}
use Rattle.av_union.specs.Choices.{inserted}
use Rattle.av_union.proofs.Places.{skip, skip_up, skip_few, length_insert, at_insert_new, at_insert_old, old_or_new}
use Rattle.av_union.proofs.WithoutPlaces.{skipped_at, skipped_count}

-- twice each entry
abbrev pub doubled : List ℕ → List ℕ
doubled w = map (λ x. 2 * x) w

-- the doubled entries with an odd number among them
abbrev pub spread : List ℕ → ℕ → ℕ → List ℕ
spread w s v = insert (doubled w) s (suc (2 * v))

-- a doubled entry
pub doubled_at : (w : List ℕ) (i : ℕ) → i < length w → at (doubled w) i ≡ 2 * at w i
doubled_at w i h = get_or-map (λ x. 2 * x) w i 0 0 h

-- there are as many
pub doubled_length : (w : List ℕ) → length (doubled w) ≡ length w
doubled_length w = length-map w (λ x. 2 * x)

-- and one more with the odd number
pub spread_length : (w : List ℕ) (s v : ℕ) → s ≤ length w → length (spread w s v) ≡ suc (length w)
spread_length w s v h = let n = doubled_length w in omega (arith, length_insert (doubled w) s (suc (2 * v)) (omega arith))

-- the odd number stands at its place
spread_new : (w : List ℕ) (s v a : ℕ) → s ≤ length w → a ≡ s → at (spread w s v) a ≡ suc (2 * v)
spread_new w s v a h e = ap (at (spread w s v)) e ∙ at_insert_new (doubled w) s (suc (2 * v)) (omega (arith, doubled_length w))

-- and the doubled entries at the others
spread_old : (w : List ℕ) (s v a i : ℕ) → s ≤ length w → i < length w → skip s i ≡ a → at (spread w s v) a ≡ 2 * at w i
spread_old w s v a i h k e =
    ap (at (spread w s v)) (sym e) ∙ at_insert_old (doubled w) s (suc (2 * v)) i (omega (arith, doubled_length w)) ∙ doubled_at w i k

-- they differ
spread_apart : (w : List ℕ) (s v : ℕ) → IsWord w → s ≤ length w → IsApart (spread w s v)
spread_apart w s v g h a b l m e =
    let n = spread_length w s v h in
    by (old_or_new s (length w) a h (omega arith)) (old_or_new s (length w) b h (omega arith))
  where
    by : (a ≡ s) ⊎ ((i : ℕ) × (i < length w) × (skip s i ≡ a)) → (b ≡ s) ⊎ ((i : ℕ) × (i < length w) × (skip s i ≡ b)) → ⊥
    by (inl p) (inl q) = omega arith
    by (inl p) (inr q) = omega (arith, spread_new w s v a h p, spread_old w s v b q.0 h q.1 q.2)
    by (inr p) (inl q) = omega (arith, spread_old w s v a p.0 h p.1 p.2, spread_new w s v b h q)
    by (inr p) (inr q) =
        let same : at w p.0 ≡ at w q.0 = omega (arith, spread_old w s v a p.0 h p.1 p.2, spread_old w s v b q.0 h q.1 q.2) in
        elim (cases_lt p.0 q.0) [
          | inl k ↦ g.numbers.apart p.0 q.0 k q.1 same
          | inr k ↦ elim (cases_eq p.0 q.0) [
            | inl f ↦ omega (arith, ap (skip s) f, p.2, q.2)
            | inr f ↦ omega (arith, skip_up s q.0 p.0 (omega (arith, f)), p.2, q.2)
          ]
        ]

-- so their pattern is a word
pub inserted_word : (w : List ℕ) (s v : ℕ) → IsWord w → s ≤ length w → IsWord (inserted w s v)
inserted_word w s v g h = record {
  numbers = pattern_word (spread w s v) (spread_apart w s v g h);
  filled = omega (arith, length_pattern (spread w s v), spread_length w s v h);
}

-- longer by one
pub inserted_length : (w : List ℕ) (s v : ℕ) → s ≤ length w → length (inserted w s v) ≡ suc (length w)
inserted_length w s v h = length_pattern (spread w s v) ∙ spread_length w s v h

-- in which the other entries lie as before
pub inserted_alike : (w : List ℕ) (s v i j : ℕ) → s ≤ length w → i < length w → j < length w
    → (at (inserted w s v) (skip s i) < at (inserted w s v) (skip s j)) ↔ (at w i < at w j)
inserted_alike w s v i j h hi hj =
    let o = pattern_order (spread w s v) in
    let n = inserted_length w s v h in
    let a = spread_old w s v (skip s i) i h hi refl in
    let b = spread_old w s v (skip s j) j h hj refl in
    let g = o.alike (skip s i) (skip s j) (omega (arith, skip_few s (length w) i hi)) (omega (arith, skip_few s (length w) j hj)) in
    (λ l. let k = g.0 l in omega arith, λ l. g.1 (omega arith))

-- so it contains the word
pub inserted_contains : (w : List ℕ) (s v : ℕ) → s ≤ length w → Contains (inserted w s v) w
inserted_contains w s v h =
    let n = length w in
    let is = skipped_at s n in
    let count = skipped_count s n in (
      map (skip s) (counting 0 n),
      record {
        count = count;
        placed = λ i l. omega (arith, is i (omega arith), skip_few s n i (omega arith), inserted_length w s v h);
        rising = λ i j l m. omega (arith, is i (omega arith), is j (omega arith), skip_up s i j l);
        alike = λ i j hi hj.
            let a = ap (at (inserted w s v)) (is i hi) in
            let b = ap (at (inserted w s v)) (is j hj) in
            let g = inserted_alike w s v i j h hi hj in
            (λ l. let k = g.1 l in omega arith, λ l. g.0 (omega arith));
      },
    )

-- ---- as the code makes it

-- the numbers that the code makes are the doubled entries with the odd number among them
pub made_spread : (w es vs us bs : List ℕ) (i s v : ℕ) → es ≡ w → length es ≤ i → vs ≡ map (λ x. 2 * x) (take i es) → us ≡ insert vs s (2 * v + 1) → bs ≡ us
    → bs ≡ spread w s v
made_spread w es vs us bs i s v same all e f g =
    let made : vs ≡ doubled w = e ∙ ap (map (λ x. 2 * x)) (take_all i es all ∙ same) in
    let y : 2 * v + 1 ≡ suc (2 * v) = omega arith in
    g ∙ f ∙ ap (λ (l : List ℕ). insert l s (2 * v + 1)) made ∙ ap (insert (doubled w) s) y

-- of a word they differ
pub spread_distinct : (w : List ℕ) (s v : ℕ) → is_perm w ≡ true → s ≤ length w → is_distinct (spread w s v) ≡ true
spread_distinct w s v perm h = once_distinct (spread w s v) (once_from_apart (spread w s v) (spread_apart w s v (perm_word w perm) h))
