-- A word that is cut after k entries is a sum, or a skew sum, of its two parts exactly where the first entries are low, or high.
use Rattle.std.proofs.Common.{◌≡◌, ℕ, zero, suc, ◌+◌, ◌-◌, ◌<◌, ◌≤◌, inl, inr, ◌↔◌, Bool, true, List, [], ◌∷◌, ◌++◌, length, take, drop, refl, sym, ap, ap₂, ◌∙◌, subst, arith}
use Rattle.std.proofs.lemmas.List.{length-map, length-take-le, length-drop}
use Rattle.av_perm.specs.Relations.{at, IsOneToLength, AreBlocks, block, raised, inflate, pattern_of, sum_root, skew_root}
use Rattle.av_perm.proofs.Patterns.{length_pattern, pattern_word, raised_pattern}
use Rattle.av_perm.proofs.Sums.{take_apart, drop_apart}
use Rattle.av_interval.specs.Cuts.{begins_low, begins_high}
use Rattle.av_interval.proofs.Overlaps.{Low, High}
use Rattle.av_interval.proofs.FirstCuts.{low_from, low_to, high_from, high_to}
use Rattle.av_interval.proofs.SumCuts.{inflate_rise, inflate_fall, sum_low, skew_high}
use Rattle.av_decomp.specs.Blocks.{blocks_at, halves_at}
use Rattle.av_decomp.proofs.TwoParts.{low_tiled, low_root, high_tiled, high_root}
use Rattle.av_decomp.proofs.TiledWords.{tiled_value}
use Rattle.av_tree.specs.Tops.{IsTwoRoot, IsCutAt, IsInflationOf}

-- a word with low first entries is the sum of its parts, and one with high first entries the skew sum
low_cut : (w : List ℕ) (k : ℕ) → IsOneToLength w → 1 ≤ k → k < length w → Low w k → IsCutAt w sum_root k
low_cut w k g h l low =
    subst (λ r. inflate r (blocks_at w (halves_at (length w) k)) ≡ w) (low_root w k g h l low) (tiled_value w (halves_at (length w) k) (low_tiled w k g h l low))

high_cut : (w : List ℕ) (k : ℕ) → IsOneToLength w → 1 ≤ k → k < length w → High w k → IsCutAt w skew_root k
high_cut w k g h l high =
    subst (λ r. inflate r (blocks_at w (halves_at (length w) k)) ≡ w) (high_root w k g h l high) (tiled_value w (halves_at (length w) k) (high_tiled w k g h l high))

-- the first block is the pattern of the first entries, the second that of the others
pub two_blocks : (w : List ℕ) (k : ℕ) → k < length w → blocks_at w (halves_at (length w) k) ≡ pattern_of (take k w) ∷ pattern_of (drop k w) ∷ []
two_blocks w k l =
    let a : k - (1 - 1) ≡ k = omega arith in
    let b : k + 1 - 1 ≡ k = omega arith in
    let d = length-drop k w in
    ap₂ (λ (xs ys : List ℕ). pattern_of xs ∷ pattern_of ys ∷ []) (ap (λ n. take n w) a)
    (ap₂ (λ n m. take n (drop m w)) (ap (λ n. length w - n) b) b ∙ whole (length w - k) (drop k w) (omega arith))
  where
    whole : (n : ℕ) (xs : List ℕ) → length xs ≡ n → take n xs ≡ xs
    whole n [] e = let f : n ≡ 0 = omega arith in rw f refl
    whole zero (x ∷ xs) e = absurd (omega arith)
    whole (suc n) (x ∷ xs) e = ap (λ (ys : List ℕ). x ∷ ys) (whole n xs (omega arith))

-- two parts one after another, each raised, have the parts for patterns
parts_back : (o p : ℕ) (a b w : List ℕ) → IsOneToLength a → IsOneToLength b → raised o a ++ raised p b ≡ w
    → (pattern_of (take (length a) w) ≡ a) × (pattern_of (drop (length a) w) ≡ b)
parts_back o p a b w ga gb e = (
  ap (λ v. pattern_of (take (length a) v)) (sym e) ∙ ap pattern_of (first (raised o a) (raised p b) (length a) (length-map a (λ (v : ℕ). v + o))) ∙ raised_pattern o a ga,
  ap (λ v. pattern_of (drop (length a) v)) (sym e) ∙ ap pattern_of (second (raised o a) (raised p b) (length a) (length-map a (λ (v : ℕ). v + o))) ∙ raised_pattern p b gb,
)
  where
    first : (xs ys : List ℕ) (n : ℕ) → length xs ≡ n → take n (xs ++ ys) ≡ xs
    first [] ys n e = let f : n ≡ 0 = omega arith in rw f refl
    first (x ∷ xs) ys zero e = absurd (omega arith)
    first (x ∷ xs) ys (suc n) e = ap (λ (zs : List ℕ). x ∷ zs) (first xs ys n (omega arith))

    second : (xs ys : List ℕ) (n : ℕ) → length xs ≡ n → drop n (xs ++ ys) ≡ ys
    second [] ys n e = let f : n ≡ 0 = omega arith in rw f refl
    second (x ∷ xs) ys zero e = absurd (omega arith)
    second (x ∷ xs) ys (suc n) e = second xs ys n (omega arith)

-- where blocks inflate 12 or 21 to a word, it is cut after the first block, and they are the blocks there
pub record CutFound (w : List ℕ) (αs : List (List ℕ)) : Type 0 where
  pub k : ℕ
  pub some : 1 ≤ k
  pub part : k < length w
  pub blocks : blocks_at w (halves_at (length w) k) ≡ αs

-- so of a sum
sum_found : (w : List ℕ) (αs : List (List ℕ)) → AreBlocks sum_root αs → inflate sum_root αs ≡ w → CutFound w αs
sum_found w [] h e = absurd (let n = h.count in omega arith)
sum_found w (a ∷ []) h e = absurd (let n = h.count in omega arith)
sum_found w (a ∷ b ∷ []) h e =
    let r = sum_low w a b h e in
    let q = parts_back 0 (length a) a b w (h.words 0 (omega arith)) (h.words 1 (omega arith)) (sym (inflate_rise a b) ∙ e) in
    record {
      k = length a;
      some = r.0;
      part = r.1;
      blocks = two_blocks w (length a) r.1 ∙ ap₂ (λ (xs ys : List ℕ). xs ∷ ys ∷ []) q.0 q.1;
    }
sum_found w (a ∷ b ∷ c ∷ αs) h e = absurd (let n = h.count in omega arith)

-- and of a skew sum
skew_found : (w : List ℕ) (αs : List (List ℕ)) → AreBlocks skew_root αs → inflate skew_root αs ≡ w → CutFound w αs
skew_found w [] h e = absurd (let n = h.count in omega arith)
skew_found w (a ∷ []) h e = absurd (let n = h.count in omega arith)
skew_found w (a ∷ b ∷ []) h e =
    let r = skew_high w a b h e in
    let q = parts_back (length b) 0 a b w (h.words 0 (omega arith)) (h.words 1 (omega arith)) (sym (inflate_fall a b) ∙ e) in
    record {
      k = length a;
      some = r.0;
      part = r.1;
      blocks = two_blocks w (length a) r.1 ∙ ap₂ (λ (xs ys : List ℕ). xs ∷ ys ∷ []) q.0 q.1;
    }
skew_found w (a ∷ b ∷ c ∷ αs) h e = absurd (let n = h.count in omega arith)

-- so of 12 and of 21
pub cut_found : (w root : List ℕ) (αs : List (List ℕ)) → IsTwoRoot root → AreBlocks root αs → inflate root αs ≡ w → CutFound w αs
cut_found w root αs (inl q) h e = sum_found w αs (subst (λ r. AreBlocks r αs) q h) (ap (λ r. inflate r αs) (sym q) ∙ e)
cut_found w root αs (inr q) h e = skew_found w αs (subst (λ r. AreBlocks r αs) q h) (ap (λ r. inflate r αs) (sym q) ∙ e)

-- the blocks at a cut are words
half_words : (w root : List ℕ) (k : ℕ) → IsOneToLength w → 1 ≤ k → k < length w → length root ≡ 2 → AreBlocks root (pattern_of (take k w) ∷ pattern_of (drop k w) ∷ [])
half_words w root k g h l e = record {
  count = sym e;
  words = λ i b. words i (omega arith);
  filled = λ i b. filled i (omega arith);
}
  where
    words : (i : ℕ) → i < 2 → IsOneToLength (block (pattern_of (take k w) ∷ pattern_of (drop k w) ∷ []) i)
    words zero b = pattern_word (take k w) (take_apart w k (omega arith) g.apart)
    words (suc zero) b = pattern_word (drop k w) (drop_apart w k (omega arith) g.apart)
    words (suc (suc i)) b = absurd (omega arith)

    filled : (i : ℕ) → i < 2 → 1 ≤ length (block (pattern_of (take k w) ∷ pattern_of (drop k w) ∷ []) i)
    filled zero b = omega (arith, length_pattern (take k w), length-take-le k w (omega arith))
    filled (suc zero) b = omega (arith, length_pattern (drop k w), length-drop k w)
    filled (suc (suc i)) b = absurd (omega arith)

-- a word cut into a sum has low first entries
pub cut_is_low : (w : List ℕ) (k : ℕ) → IsOneToLength w → 1 ≤ k → k < length w → IsCutAt w sum_root k → Low w k
cut_is_low w k g h l e =
    let r = sum_low w (pattern_of (take k w)) (pattern_of (drop k w)) (half_words w sum_root k g h l refl) (ap (inflate sum_root) (sym (two_blocks w k l)) ∙ e) in
    subst (Low w) (length_pattern (take k w) ∙ length-take-le k w (omega arith)) r.2

-- and into a skew sum high ones
pub cut_is_high : (w : List ℕ) (k : ℕ) → IsOneToLength w → 1 ≤ k → k < length w → IsCutAt w skew_root k → High w k
cut_is_high w k g h l e =
    let r = skew_high w (pattern_of (take k w)) (pattern_of (drop k w)) (half_words w skew_root k g h l refl) (ap (inflate skew_root) (sym (two_blocks w k l)) ∙ e) in
    subst (High w) (length_pattern (take k w) ∙ length-take-le k w (omega arith)) r.2

-- a word that is cut at 12 or 21 is cut into the blocks there
pub cut_into : (w root : List ℕ) (k : ℕ) → IsTwoRoot root → IsOneToLength w → 1 ≤ k → k < length w → IsCutAt w root k → IsInflationOf w root (blocks_at w (halves_at (length w) k))
cut_into w root k two g h l e = record {
  blocks = subst (AreBlocks root) (sym (two_blocks w k l)) (half_words w root k g h l (long two));
  value = e;
}
  where
    long : IsTwoRoot root → length root ≡ 2
    long (inl q) = ap (λ (v : List ℕ). length v) q
    long (inr q) = ap (λ (v : List ℕ). length v) q

-- 12 begins with 1
pub begins_one : (root : List ℕ) → IsTwoRoot root → at root 0 ≡ 1 → root ≡ sum_root
begins_one root (inl q) e = q
begins_one root (inr q) e = absurd (let f = ap (λ (v : List ℕ). at v 0) q in omega arith)

-- and 21 doesn't
pub begins_two : (root : List ℕ) → IsTwoRoot root → (at root 0 ≡ 1 → ⊥) → root ≡ skew_root
begins_two root (inl q) f = absurd (f (ap (λ (v : List ℕ). at v 0) q))
begins_two root (inr q) f = q

-- the test for low first entries tests whether a word is cut into a sum
pub low_is_cut : (w root : List ℕ) (k : ℕ) (b : Bool) → IsOneToLength w → 1 ≤ k → k < length w → root ≡ sum_root → b ≡ begins_low w k → (b ≡ true) ↔ IsCutAt w root k
low_is_cut w root k b g h l q e = (
  λ t. subst (λ r. IsCutAt w r k) (sym q) (low_cut w k g h l (low_from w k (omega arith) (sym e ∙ t))),
  λ c. e ∙ low_to w k (omega arith) (cut_is_low w k g h l (subst (λ r. IsCutAt w r k) q c)),
)

-- and that for high ones into a skew sum
pub high_is_cut : (w root : List ℕ) (k : ℕ) (b : Bool) → IsOneToLength w → 1 ≤ k → k < length w → root ≡ skew_root → b ≡ begins_high w k → (b ≡ true) ↔ IsCutAt w root k
high_is_cut w root k b g h l q e = (
  λ t. subst (λ r. IsCutAt w r k) (sym q) (high_cut w k g h l (high_from w k (omega arith) (sym e ∙ t))),
  λ c. e ∙ high_to w k (omega arith) (cut_is_high w k g h l (subst (λ r. IsCutAt w r k) q c)),
)
