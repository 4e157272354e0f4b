-- The first block at a cut of a word is an inflation of the root of two places just where the word has an earlier cut.
use Rattle.std.proofs.Common.{◌≡◌, ℕ, zero, suc, ◌<◌, ◌≤◌, ◌≢◌, inl, inr, ◌↔◌, List, [], ◌∷◌, length, take, refl, sym, ap, ◌∙◌, arith}
use Rattle.std.proofs.lemmas.Bool.{cases_lt}
use Rattle.std.proofs.lemmas.List.{get_or-take, length-take-le}
use Rattle.av_perm.specs.Relations.{at, IsOneToLength, block, pattern_of, IsNoInflationOf}
use Rattle.av_perm.specs.Fibre.{fibre}
use Rattle.av_perm.proofs.Membership.{nil_from}
use Rattle.av_perm.proofs.Patterns.{length_pattern, pattern_alike, pattern_word}
use Rattle.av_perm.proofs.Sums.{take_apart}
use Rattle.av_perm.proofs.Fibres.{fibre_hit, fibre_at}
use Rattle.av_perm.proofs.BlockMaps.{blocks_at}
use Rattle.av_perm.proofs.Cuts.{Cuts, lie_alike, TurnsAt, turning, turning_length, turning_turns, cut_blocks, cut_inflates, inflation_cut}

-- the first child of a map that turns at `c` has the first `c` items
front_fibre : (c : ℕ) (xs e : List ℕ) → length e ≡ length xs → ((s : ℕ) → s < length e → s < c → at e s ≡ 0)
    → ((s : ℕ) → s < length e → c ≤ s → at e s ≢ 0) → fibre xs e 0 ≡ take c xs
front_fibre zero xs e n f g = nil_from (fibre xs e 0) (λ x i. let r = fibre_at xs e 0 x 0 i in g r.0 r.2 (omega arith) r.3)
front_fibre (suc c) [] e n f g = refl
front_fibre (suc c) (x ∷ xs) [] n f g = absurd (omega arith)
front_fibre (suc c) (x ∷ xs) (d ∷ e) n f g =
    fibre_hit x xs d e 0 (f 0 (omega arith) (omega arith))
    ∙ ap (λ l. x ∷ l) (front_fibre c xs e (omega arith) (λ s h k. f (suc s) (omega arith) (omega arith)) (λ s h k. g (suc s) (omega arith) (omega arith)))

-- so the first block of such a map is the pattern of the first `c` entries
front_block : (σ e : List ℕ) (c : ℕ) → length e ≡ length σ → TurnsAt e c → pattern_of (fibre σ e 0) ≡ pattern_of (take c σ)
front_block σ e c n t = ap pattern_of (front_fibre c σ e n (λ s h k. t.before s k) (λ s h k q. let x = t.after s k h in omega arith))

-- the pattern of the first `c` entries has length `c`
front_length : (σ : List ℕ) (c : ℕ) → c ≤ length σ → length (pattern_of (take c σ)) ≡ c
front_length σ c h = length_pattern (take c σ) ∙ length-take-le c σ h

-- the pattern of the first `c` entries lies as these entries
front_order : (σ : List ℕ) (c s t : ℕ) → c ≤ length σ → s < c → t < c
    → (at (pattern_of (take c σ)) s < at (pattern_of (take c σ)) t) ↔ (at σ s < at σ t)
front_order σ c s t h hs ht =
    let n = length-take-le c σ h in
    let x = pattern_alike (take c σ) s t (omega arith) (omega arith) in
    let a = get_or-take c σ s 0 hs in
    let b = get_or-take c σ t 0 ht in
    (λ l. let y = x.0 l in omega arith, λ l. x.1 (omega arith))

-- where `c` is a cut, a cut of the pattern of the first `c` entries is an earlier cut of the word
cut_from_front : (π σ : List ℕ) (c d : ℕ) → Cuts π σ c → Cuts π (pattern_of (take c σ)) d → (d < c) × Cuts π σ d
cut_from_front π σ c d k j =
    let fits = k.fits in
    let less = j.fits in
    let n = front_length σ c (omega arith) in (
      omega arith,
      record {
        some = j.some;
        fits = omega arith;
        lie = λ s t hs ht l. elim (cases_lt t c) [
          | inr o ↦ k.lie s t (omega arith) o l
          | inl o ↦ lie_alike π (pattern_of (take c σ)) σ s t
              (front_order σ c s t (omega arith) (omega arith) o) (front_order σ c t s (omega arith) o (omega arith))
              (j.lie s t hs ht (omega arith))
        ];
      },
    )

-- a cut of the word before `c` is one of the pattern of the first `c` entries
cut_in_front : (π σ : List ℕ) (c d : ℕ) → c ≤ length σ → d < c → Cuts π σ d → Cuts π (pattern_of (take c σ)) d
cut_in_front π σ c d h less k =
    let n = front_length σ c h in
    record {
      some = k.some;
      fits = omega arith;
      lie = λ s t hs ht l.
          let x = front_order σ c s t h (omega arith) (omega arith) in
          let y = front_order σ c t s h (omega arith) (omega arith) in
          lie_alike π σ (pattern_of (take c σ)) s t (x.1, x.0) (y.1, y.0) (k.lie s t hs ht (omega arith));
    }

-- at the least cut the first block is no inflation of the root
pub first_block_indecomposable : (π σ : List ℕ) (c : ℕ) → length π ≡ 2 → IsOneToLength π → Cuts π σ c → ((d : ℕ) → d < c → Cuts π σ d → ⊥)
    → IsNoInflationOf π (block (cut_blocks π σ c) 0)
first_block_indecomposable π σ c two w k first αs b q =
    let t = turning_turns c (length σ) k.some k.fits in
    let front : block (cut_blocks π σ c) 0 ≡ pattern_of (take c σ) =
    blocks_at σ (turning c (length σ)) (length π) 0 (omega arith)
    ∙ front_block σ (turning c (length σ)) c (turning_length c (length σ)) t in
    let r = inflation_cut π (pattern_of (take c σ)) αs two w b (q ∙ front) in
    let d = cut_from_front π σ c r.0 k r.1 in
    first r.0 d.0 d.1

-- where the first block of a map is no inflation of the root, the word has no cut before the turn
pub no_earlier_cut : (π σ e : List ℕ) (c d : ℕ) → length π ≡ 2 → IsOneToLength σ → length e ≡ length σ → TurnsAt e c
    → IsNoInflationOf π (pattern_of (fibre σ e 0)) → Cuts π σ d → c ≤ d
no_earlier_cut π σ e c d two w n t none k = elim (cases_lt d c) [
  | inr l ↦ l
  | inl l ↦
      let fits = t.fits in
      let word = pattern_word (take c σ) (take_apart σ c (omega arith) w.apart) in
      let r = cut_inflates π (pattern_of (take c σ)) d two word (cut_in_front π σ c d (omega arith) l k) in
      absurd (none (cut_blocks π (pattern_of (take c σ)) d) r.0 (r.1 ∙ sym (front_block σ e c n t)))
]
