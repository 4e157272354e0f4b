-- A word with a cut is the sum, or the skew sum, of its two parts, and the first cut leaves a first part that is none.
use Rattle.std.proofs.Common.{◌≡◌, ℕ, zero, suc, ◌+◌, ◌-◌, ◌<◌, ◌≤◌, inl, inr, ◌↔◌, List, length, take, refl, sym, ap, ◌∙◌, subst, arith}
use Rattle.std.proofs.lemmas.List.{length-take-le, get_or-take}
use Rattle.av_perm.specs.Relations.{at, IsOneToLength, IsInterval, block, pattern_of, sum_root, skew_root, IsNoInflationOf}
use Rattle.av_perm.specs.Decompose.{IsRoot, Decomposes}
use Rattle.av_perm.proofs.Patterns.{length_pattern, pattern_same, word_pattern}
use Rattle.av_perm.proofs.RootWords.{rise_word, fall_word}
use Rattle.av_interval.specs.Intervals.{Tiles, places_of}
use Rattle.av_interval.specs.Cuts.{IsLeast, IsSumCut, IsSkewCut}
use Rattle.av_interval.proofs.Overlaps.{Low, High}
use Rattle.av_interval.proofs.SumCuts.{AreNext, above_low, below_high, low_next, high_next, pattern_next}
use Rattle.av_interval.proofs.FirstCuts.{cut_low, cut_high}
use Rattle.av_interval.proofs.CutScans.{Cuts, sums, skew_sums}
use Rattle.av_interval.proofs.FourEntries.{Alike, both_rise, both_fall}
use Rattle.av_decomp.specs.Blocks.{blocks_at, first_entries, root_at, halves_at}
use Rattle.av_decomp.proofs.SpanNumbers.{span_at}
use Rattle.av_decomp.proofs.TiledWords.{IsTiled, first_at, tiled_blocks, tiled_value}

-- the two parts follow one another
pub halves_cover : (n k : ℕ) → 1 ≤ k → k < n → Tiles 1 n (halves_at n k)
halves_cover n k h l = (refl, h, (omega arith, omega arith, refl))

-- and are intervals, where the entries of each lie among as many numbers
halves_tiled : (w : List ℕ) (k u v : ℕ) → IsOneToLength w → 1 ≤ k → k < length w
    → ((s : ℕ) → s < k → (u ≤ at w s) × (at w s < u + k)) → ((s : ℕ) → k ≤ s → s < length w → (v ≤ at w s) × (at w s < v + (length w - k)))
    → IsTiled w (halves_at (length w) k)
halves_tiled w k u v g h l f r = record {
  word = g;
  cover = halves_cover (length w) k h l;
  interval = λ i. interval i;
}
  where
    interval : (i : ℕ) → i < 2 → IsInterval w ((span_at (halves_at (length w) k) i).first - 1) (places_of (span_at (halves_at (length w) k) i))
    interval zero b = (omega arith, (u, λ s x y. let c = f s (omega arith) in (c.0, omega arith)))
    interval (suc zero) b = (omega arith, (v, λ s x y. let c = r s (omega arith) (omega arith) in (c.0, omega arith)))
    interval (suc (suc i)) b = absurd (omega arith)

-- the pattern of two numbers is a word of two that stand alike
two_alike : (xs root : List ℕ) → IsOneToLength root → length xs ≡ 2 → length root ≡ 2 → Alike (at xs 0) (at xs 1) (at root 0) (at root 1)
    → pattern_of xs ≡ root
two_alike xs root g e f both =
    pattern_same xs root (record { count = e ∙ sym f; alike = λ s t h k. alike s t (omega (arith, e)) (omega (arith, e)) }) ∙ word_pattern root g
  where
    alike : (s t : ℕ) → s < 2 → t < 2 → (at xs s < at xs t) ↔ (at root s < at root t)
    alike zero zero h k = (λ x. absurd (omega arith), λ x. absurd (omega arith))
    alike zero (suc zero) h k = both.0
    alike (suc zero) zero h k = both.1
    alike (suc zero) (suc zero) h k = (λ x. absurd (omega arith), λ x. absurd (omega arith))
    alike (suc (suc s)) t h k = absurd (omega arith)
    alike s (suc (suc t)) h k = absurd (omega arith)

-- the first block is the pattern of the first entries
first_block : (w : List ℕ) (k : ℕ) → block (blocks_at w (halves_at (length w) k)) 0 ≡ pattern_of (take k w)
first_block w k = let e : k - (1 - 1) ≡ k = omega arith in ap (λ n. pattern_of (take n w)) e

-- the first entries of the two parts
heads : (w : List ℕ) (k : ℕ) → 1 ≤ k → k < length w → (at (first_entries w (halves_at (length w) k)) 0 ≡ at w 0) × (at (first_entries w (halves_at (length w) k)) 1 ≡ at w k)
heads w k h l =
    let c = halves_cover (length w) k h l in
    let e : k + 1 - 1 ≡ k = omega arith in
    (first_at w (halves_at (length w) k) 0 c (omega arith), first_at w (halves_at (length w) k) 1 c (omega arith) ∙ ap (at w) e)

-- a word with low first entries is cut into two intervals, whose first entries rise
pub low_tiled : (w : List ℕ) (k : ℕ) → IsOneToLength w → 1 ≤ k → k < length w → Low w k → IsTiled w (halves_at (length w) k)
low_tiled w k g h l low = halves_tiled w k 1 (suc k) g h l
    (λ s x. let a = g.within s (omega arith) in let b = low s x in (a.0, omega arith))
    (λ s x y. let a = above_low w k s g l low x y in (omega (arith, a), omega (arith, a)))

pub low_root : (w : List ℕ) (k : ℕ) → IsOneToLength w → 1 ≤ k → k < length w → Low w k → root_at w (halves_at (length w) k) ≡ sum_root
low_root w k g h l low =
    let e = heads w k h l in
    let x = low 0 (omega arith) in
    let y = above_low w k k g l low (omega arith) l in
    two_alike (first_entries w (halves_at (length w) k)) sum_root rise_word refl refl (both_rise _ _ 1 2 (omega (arith, e, y)) (omega arith))

-- and one with high first entries, where they fall
pub high_tiled : (w : List ℕ) (k : ℕ) → IsOneToLength w → 1 ≤ k → k < length w → High w k → IsTiled w (halves_at (length w) k)
high_tiled w k g h l high = halves_tiled w k (suc (length w - k)) 1 g h l
    (λ s x. let a = g.within s (omega arith) in let b = high s x in (omega arith, omega arith))
    (λ s x y. let a = below_high w k s g l high x y in (omega (arith, a), omega (arith, a)))

pub high_root : (w : List ℕ) (k : ℕ) → IsOneToLength w → 1 ≤ k → k < length w → High w k → root_at w (halves_at (length w) k) ≡ skew_root
high_root w k g h l high =
    let e = heads w k h l in
    let x = high 0 (omega arith) in
    let y = below_high w k k g l high (omega arith) l in
    two_alike (first_entries w (halves_at (length w) k)) skew_root fall_word refl refl (both_fall _ _ 2 1 (omega (arith, e, y)) (omega arith))

-- a word of first entries next to a number is that much above their pattern
above_pattern : (w : List ℕ) (k o s : ℕ) → k ≤ length w → AreNext o (take k w) → s < k → at (pattern_of (take k w)) s + o ≡ at w s
above_pattern w k o s h r l = pattern_next o (take k w) s r (omega (arith, length-take-le k w h)) ∙ get_or-take k w s 0 l

-- where the two parts at the least cut have the root of the cut, and a cut of the first is one of the word, they are a decomposition
halves_decompose : (C : Cuts) (w : List ℕ) (k : ℕ) → IsOneToLength w → IsLeast (C.IsCut w) k → k < length w → IsTiled w (halves_at (length w) k)
    → ((j : ℕ) → j < k → C.Begins (pattern_of (take k w)) j → C.Begins w j)
    → (IsNoInflationOf C.root (block (blocks_at w (halves_at (length w) k)) 0)
    → IsRoot (root_at w (halves_at (length w) k)) (block (blocks_at w (halves_at (length w) k)) 0))
    → Decomposes w (root_at w (halves_at (length w) k)) (blocks_at w (halves_at (length w) k))
halves_decompose C w k g c l t up root = record {
  blocks = tiled_blocks w (halves_at (length w) k) t;
  value = tiled_value w (halves_at (length w) k) t;
  root = root (subst (IsNoInflationOf C.root) (sym (first_block w k)) (C.whole (pattern_of (take k w)) (λ j x y p.
      let b : j < k = omega (arith, y, length_pattern (take k w), length-take-le k w) in
      c.least j b (C.cut w j g x (omega arith) (up j b p)))));
}

-- the least cut of a sum
pub sum_decomposes : (w : List ℕ) (k : ℕ) → IsOneToLength w → IsLeast (IsSumCut w) k
    → Decomposes w (root_at w (halves_at (length w) k)) (blocks_at w (halves_at (length w) k))
sum_decomposes w k g c =
    let h = c.member.some in
    let l = c.member.part in
    let low = cut_low w k c.member in
    halves_decompose sums w k g c l (low_tiled w k g h l low)
    (λ j x p s z. let d = p s z in omega (arith, above_pattern w k 0 s (omega arith) (low_next w k g (omega arith) low) (omega arith)))
    (λ n. inl (low_root w k g h l low, n))

-- and of a skew sum
pub skew_sum_decomposes : (w : List ℕ) (k : ℕ) → IsOneToLength w → IsLeast (IsSkewCut w) k
    → Decomposes w (root_at w (halves_at (length w) k)) (blocks_at w (halves_at (length w) k))
skew_sum_decomposes w k g c =
    let h = c.member.some in
    let l = c.member.part in
    let high = cut_high w k c.member in
    let n = length_pattern (take k w) ∙ length-take-le k w (omega arith) in
    halves_decompose skew_sums w k g c l (high_tiled w k g h l high)
    (λ j x p s z. let d = p s z in omega (arith, above_pattern w k (length w - k) s (omega arith) (high_next w k g (omega arith) high) (omega arith)))
    (λ n. inr (inl (high_root w k g h l high, n)))
