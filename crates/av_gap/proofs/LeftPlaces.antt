-- What is left of a word without the entries at two places.
use Rattle.std.proofs.Common.{◌≡◌, ℕ, ◌+◌, ◌<◌, ◌≤◌, ◌⊎◌, inl, inr, List, [], ◌∷◌, ◌++◌, length, map, Bool, true, false, ◌&&◌, refl, ap, ◌∙◌, arith, add-one}
use Rattle.std.proofs.lemmas.Bool.{cases_eq}
use Rattle.std.proofs.lemmas.List.{map_push, length-map}
use Rattle.av_perm.specs.Simple.{is_simple}
use Rattle.av_perm.specs.Word.{is_distinct}
use Rattle.av_perm.specs.Relations.{at, IsOneToLength, IsSimple}
use Rattle.av_perm.proofs.NoRepeats.{once_from_apart}
use Rattle.av_perm.proofs.WordTests.{once_distinct}
use Rattle.av_perm.proofs.SimpleWords.{simple_law}
use Rattle.av_interval.specs.Points.{chosen, pattern_on, but, but_two}
use Rattle.av_interval.proofs.PointCounts.{count_le}
use Rattle.av_interval.proofs.ChosenPlaces.{step, chosen_length, chosen_onto}
use Rattle.av_interval.proofs.PatternsOn.{on_word, on_apart, on_same}
use Rattle.av_interval.proofs.LeftPoints.{but_two_yes}

-- one more place that is in the set
pub chosen_yes : (w : List ℕ) (X : ℕ → Bool) (k : ℕ) → X k ≡ true → map (at w) (chosen X (k + 1)) ≡ map (at w) (chosen X k) ++ at w k ∷ []
chosen_yes w X k e = ap (λ n. map (at w) (chosen X n)) (add-one k) ∙ ap (λ (b : Bool). map (at w) (step X k b)) e ∙ map_push (at w) (chosen X k) k

-- or not in it
pub chosen_not : (w : List ℕ) (X : ℕ → Bool) (k : ℕ) → X k ≡ false → map (at w) (chosen X (k + 1)) ≡ map (at w) (chosen X k)
chosen_not w X k e = ap (λ n. map (at w) (chosen X n)) (add-one k) ∙ ap (λ (b : Bool). map (at w) (step X k b)) e

-- no more entries than places are left
pub left_few : (w : List ℕ) (X : ℕ → Bool) (n : ℕ) → length (map (at w) (chosen X n)) ≤ n
left_few w X n = omega (arith, length-map (chosen X n) (at w), chosen_length X n, count_le X n)

-- of three places one is left
pub left_some : (w : List ℕ) (v u n : ℕ) → 3 ≤ n → 1 ≤ length (map (at w) (chosen (but_two v u) n))
left_some w v u n h = elim (other 0) [
  | inl a ↦ some 0 (omega arith) a.0 a.1
  | inr a ↦ elim (other 1) [
    | inl b ↦ some 1 (omega arith) b.0 b.1
    | inr b ↦ some 2 (omega arith) (λ e. absurd (omega (arith, a, b, e))) (λ e. absurd (omega (arith, a, b, e)))
  ]
]
  where
    other : (k : ℕ) → ((k ≡ v → ⊥) × (k ≡ u → ⊥)) ⊎ ((k ≡ v) ⊎ (k ≡ u))
    other k = elim (cases_eq k v) [ inl e ↦ inr (inl e) | inr ne ↦ elim (cases_eq k u) [ inl e ↦ inr (inr e) | inr ne' ↦ inl (ne, ne') ] ]

    some : (k : ℕ) → k < n → (k ≡ v → ⊥) → (k ≡ u → ⊥) → 1 ≤ length (map (at w) (chosen (but_two v u) n))
    some k l a b =
        let r = chosen_onto (but_two v u) n k l (but_two_yes v u k a b) in
        omega (arith, r.1, length-map (chosen (but_two v u) n) (at w))

-- they differ
pub left_distinct : (w : List ℕ) (X : ℕ → Bool) → IsOneToLength w → is_distinct (map (at w) (chosen X (length w))) ≡ true
left_distinct w X n = once_distinct (map (at w) (chosen X (length w))) (once_from_apart (map (at w) (chosen X (length w))) (on_apart w n X))

-- without the same place twice, what is left is what is left without it
pub pattern_twice : (w : List ℕ) (v : ℕ) → pattern_on w (but_two v v) ≡ pattern_on w (but v)
pattern_twice w v = on_same w (but_two v v) (but v) (λ k l. go (but v k))
  where
    go : (b : Bool) → (b && b) ≡ b
    go true = refl
    go false = refl

-- the test of a pattern tests whether it is simple
pub left_simple : (w : List ℕ) (X : ℕ → Bool) → IsOneToLength w → is_simple (pattern_on w X) ≡ true → IsSimple (pattern_on w X)
left_simple w X n e = (simple_law (pattern_on w X) (on_word w n X)).0 e

pub simple_left : (w : List ℕ) (X : ℕ → Bool) → IsOneToLength w → IsSimple (pattern_on w X) → is_simple (pattern_on w X) ≡ true
simple_left w X n s = (simple_law (pattern_on w X) (on_word w n X)).1 s
