-- The tests for sums and skew sums test them.
use Rattle.std.proofs.Common.{◌≡◌, ℕ, zero, suc, ◌+◌, ◌-◌, ◌<◌, ◌≤◌, ◌↔◌, List, [], ◌∷◌, ◌++◌, length, take, drop, Bool, true, not, refl, sym, ap, ap₂, ◌∙◌, arith, append-nil, length-append}
use Rattle.std.specs.List.{list_all}
use Rattle.std.proofs.Math.Seq.{take-append_seam, drop-append_seam}
use Rattle.std.proofs.lemmas.List.{length-map, get_or-take, get_or-drop, length-take-le, length-drop}
use Rattle.av_perm.specs.Lists.{same, counting}
use Rattle.av_perm.specs.WordOrder.{word_same}
use Rattle.av_perm.specs.Simple.{is_sum_indecomposable, is_skew_indecomposable}
use Rattle.av_perm.specs.Relations.{IsOneToLength, AreBlocks, block, points_below, raised, inflate, pattern_of, IsNoInflationOf}
use Rattle.av_perm.specs.Laws.{SumLaw, SkewLaw}
use Rattle.av_perm.proofs.Membership.{counting_In, In_counting}
use Rattle.av_perm.proofs.Tests.{all_from, all_to, not_from, not_to, same_refl}
use Rattle.av_perm.proofs.NoRepeats.{IsApart}
use Rattle.av_perm.proofs.Patterns.{length_pattern, pattern_word, raised_pattern}

-- the patterns of the first k entries and of the rest
abbrev pair : List ℕ → ℕ → List (List ℕ)
pair w k = pattern_of (take k w) ∷ pattern_of (drop k w) ∷ []

-- parts of different numbers are different
pub take_apart : (w : List ℕ) (k : ℕ) → k ≤ length w → IsApart w → IsApart (take k w)
take_apart w k h a s t l m e =
    let n = length-take-le k w h in
    a s t l (omega arith) (sym (get_or-take k w s 0 (omega arith)) ∙ e ∙ get_or-take k w t 0 (omega arith))

-- the rest of different numbers are different
pub drop_apart : (w : List ℕ) (k : ℕ) → k ≤ length w → IsApart w → IsApart (drop k w)
drop_apart w k h a s t l m e =
    let n = length-drop k w in
    a (k + s) (k + t) (omega arith) (omega arith) (sym (get_or-drop k w s 0) ∙ e ∙ get_or-drop k w t 0)

-- a word cut in two, with two entries in the root
pair_blocks : (x y : ℕ) (w : List ℕ) (k : ℕ) → IsOneToLength w → 1 ≤ k → k < length w → AreBlocks (x ∷ y ∷ []) (pair w k)
pair_blocks x y w k g h l = record { count = refl; words = λ i. words i; filled = λ i. filled i }
  where
    words : (i : ℕ) → i < 2 → IsOneToLength (block (pair w k) i)
    words zero m = pattern_word (take k w) (take_apart w k (omega arith) g.apart)
    words (suc zero) m = pattern_word (drop k w) (drop_apart w k (omega arith) g.apart)
    words (suc (suc i)) m = absurd (omega arith)

    filled : (i : ℕ) → i < 2 → 1 ≤ length (block (pair w k) i)
    filled zero m = omega (arith, length_pattern (take k w), length-take-le k w)
    filled (suc zero) m = omega (arith, length_pattern (drop k w), length-drop k w)
    filled (suc (suc i)) m = absurd (omega arith)

-- the two blocks of an inflation are the patterns of its two parts
pair_back : (x y : ℕ) (w a b : List ℕ) → IsOneToLength a → IsOneToLength b → inflate (x ∷ y ∷ []) (a ∷ b ∷ []) ≡ w
    → inflate (x ∷ y ∷ []) (pair w (length a)) ≡ w
pair_back x y w a b ga gb e =
    ap₂ (λ (c d : List ℕ). inflate (x ∷ y ∷ []) (c ∷ d ∷ [])) left right ∙ e
  where
    o : ℕ
    o = points_below x (x ∷ y ∷ []) (a ∷ b ∷ [])

    p : ℕ
    p = points_below y (x ∷ y ∷ []) (a ∷ b ∷ [])

    parts : (o p : ℕ) → raised o a ++ (raised p b ++ []) ≡ w → (pattern_of (take (length a) w) ≡ a) × (pattern_of (drop (length a) w) ≡ b)
    parts o p e =
        let n : length (raised o a) ≡ length a = length-map a (λ (v : ℕ). v + o) in (
          ap (λ (k : ℕ). pattern_of (take k w)) (sym n) ∙ ap (λ (l : List ℕ). pattern_of (take (length (raised o a)) l)) (sym e) ∙ ap pattern_of (take-append_seam (raised o a) (raised p b ++ [])) ∙ raised_pattern o a ga,
          ap (λ (k : ℕ). pattern_of (drop k w)) (sym n) ∙ ap (λ (l : List ℕ). pattern_of (drop (length (raised o a)) l)) (sym e) ∙ ap pattern_of (drop-append_seam (raised o a) (raised p b ++ [])) ∙ ap pattern_of (append-nil (raised p b)) ∙ raised_pattern p b gb,
        )

    left : pattern_of (take (length a) w) ≡ a
    left = (parts (points_below x (x ∷ y ∷ []) (a ∷ b ∷ [])) (points_below y (x ∷ y ∷ []) (a ∷ b ∷ [])) e).0

    right : pattern_of (drop (length a) w) ≡ b
    right = (parts (points_below x (x ∷ y ∷ []) (a ∷ b ∷ [])) (points_below y (x ∷ y ∷ []) (a ∷ b ∷ [])) e).1

-- the word is the inflation of the root of two by its two parts
abbrev cut_test : ℕ → ℕ → List ℕ → ℕ → Bool
cut_test x y w k = same w (inflate (x ∷ y ∷ []) (pair w k))

-- no cut passes exactly where the word is no inflation of the root of two
cut_law : (x y : ℕ) (w : List ℕ) → IsOneToLength w → (list_all (λ k. not (cut_test x y w k)) (counting 1 (length w - 1)) ≡ true) ↔ IsNoInflationOf (x ∷ y ∷ []) w
cut_law x y w g = (
  λ e αs b q. from e αs b q,
  λ n. all_to (λ k. not (cut_test x y w k)) (counting 1 (length w - 1)) (λ k i. not_to (cut_test x y w k) (λ t.
      let r = In_counting (length w - 1) 1 k i in
      n (pair w k) (pair_blocks x y w k g r.0 (omega (arith, r.1))) (sym (word_same w (inflate (x ∷ y ∷ []) (pair w k)) t)))),
)
  where
    whole : (a b : List ℕ) → inflate (x ∷ y ∷ []) (a ∷ b ∷ []) ≡ w → length w ≡ length a + length b
    whole a b e = sum (points_below x (x ∷ y ∷ []) (a ∷ b ∷ [])) (points_below y (x ∷ y ∷ []) (a ∷ b ∷ [])) e
      where
        sum : (o p : ℕ) → raised o a ++ (raised p b ++ []) ≡ w → length w ≡ length a + length b
        sum o p e = let f = ap length e in omega (arith, length-append (raised o a) (raised p b ++ []), ap length (append-nil (raised p b)), length-map a (λ (v : ℕ). v + o), length-map b (λ (v : ℕ). v + p))

    from : list_all (λ k. not (cut_test x y w k)) (counting 1 (length w - 1)) ≡ true → (αs : List (List ℕ)) → AreBlocks (x ∷ y ∷ []) αs
        → inflate (x ∷ y ∷ []) αs ≡ w → ⊥
    from t [] b q = let c = b.count in absurd (omega arith)
    from t (a ∷ []) b q = let c = b.count in absurd (omega arith)
    from t (a ∷ c ∷ d ∷ αs) b q = let n = b.count in absurd (omega arith)
    from t (a ∷ c ∷ []) b q =
        let n = whole a c q in
        let fa : 1 ≤ length a = b.filled 0 (omega arith) in
        let fc : 1 ≤ length c = b.filled 1 (omega arith) in
        not_from (cut_test x y w (length a)) (all_from (λ k. not (cut_test x y w k)) (counting 1 (length w - 1)) t (length a) (counting_In (length w - 1) 1 (length a) fa (omega arith)))
        (ap (same w) (pair_back x y w a c (b.words 0 (omega arith)) (b.words 1 (omega arith)) q) ∙ same_refl w)

-- the test for sum-indecomposable words
pub sum_law : SumLaw
unfolding is_sum_indecomposable
sum_law σ w = cut_law 1 2 σ w

-- the test for skew-indecomposable words
pub skew_law : SkewLaw
unfolding is_skew_indecomposable
skew_law σ w = cut_law 2 1 σ w
