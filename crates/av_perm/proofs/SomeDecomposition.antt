-- Each word of length at least 2 has a decomposition.
-- Where all entries before some place lie below all others, take the first such place: the word is the sum 12[α, β] of its two parts
-- (Cuts), and α is no sum, since that would give an earlier place (CutFronts). Where they lie above, the same with 21.
-- Else, while some places, neither one nor all, are a block (BlockIntervals), squash them to one (Squashing). The entries that are left at
-- the end lie as a simple word (SimpleQuotients), and each stands for a run of places, whose pattern is a block (QuotientRoots).
use Rattle.std.proofs.Common.{◌≡◌, ℕ, ◌<◌, ◌≤◌, ◌⊎◌, inl, inr, List, length, refl, arith}
use Rattle.av_perm.specs.Relations.{at, IsOneToLength, AreBlocks, block, inflate, sum_root, skew_root, IsNoInflationOf}
use Rattle.av_perm.specs.Decompose.{Decomposes}
use Rattle.av_perm.proofs.Pigeons.{search_below}
use Rattle.av_perm.proofs.Searches.{least}
use Rattle.av_perm.proofs.RootWords.{rise_word, fall_word}
use Rattle.av_perm.proofs.Cuts.{IsCut, Cuts, root_cut_decided, cut_blocks, cut_inflates}
use Rattle.av_perm.proofs.CutFronts.{first_block_indecomposable}
use Rattle.av_perm.proofs.Squashing.{simple_quotient}
use Rattle.av_perm.proofs.QuotientRoots.{quotient_decomposes}

-- the blocks of the word under a root of two places, the first of which is no inflation of that root
abbrev RootBlocks : List ℕ → List ℕ → Type 0
RootBlocks π σ = (αs : List (List ℕ)) × AreBlocks π αs × (inflate π αs ≡ σ) × IsNoInflationOf π (block αs 0)

-- there are such blocks, by the least cut, or there is no cut
blocks_or_uncut : (π σ : List ℕ) → length π ≡ 2 → IsOneToLength π → IsOneToLength σ → RootBlocks π σ ⊎ ((c : ℕ) → Cuts π σ c → ⊥)
blocks_or_uncut π σ two p w = elim (search_below (length σ) (Cuts π σ) (λ c h. root_cut_decided π σ c)) [
  | inl r ↦
      let m = least (length σ) (Cuts π σ) (λ c h. root_cut_decided π σ c) r.0 r.1 r.2 in
      let k = cut_inflates π σ m.0 two w m.2 in
      inl (cut_blocks π σ m.0, k.0, k.1, first_block_indecomposable π σ m.0 two p m.2 m.3)
  | inr f ↦ inr (λ c k. f c k.fits k)
]

-- where all before lies below all others there is a cut for 12
sum_cut : (σ : List ℕ) (c : ℕ) → IsCut (λ s t. at σ s < at σ t) (length σ) c → Cuts sum_root σ c
sum_cut σ c k = record {
  some = k.some;
  fits = k.fits;
  lie = λ s t hs ht l. let y = k.lie s t hs ht l in ((λ a. omega arith, λ a. y), (λ a. absurd (omega arith), λ a. absurd (omega arith)));
}

-- where all before lies above all others there is a cut for 21
skew_cut : (σ : List ℕ) (c : ℕ) → IsCut (λ s t. at σ t < at σ s) (length σ) c → Cuts skew_root σ c
skew_cut σ c k = record {
  some = k.some;
  fits = k.fits;
  lie = λ s t hs ht l. let y = k.lie s t hs ht l in ((λ a. absurd (omega arith), λ a. absurd (omega arith)), (λ a. omega arith, λ a. y));
}

-- a root and blocks for each word of two or more entries
pub some_decomposition : (σ : List ℕ) → IsOneToLength σ → 2 ≤ length σ → (π : List ℕ) × (αs : List (List ℕ)) × Decomposes σ π αs
some_decomposition σ w h = elim (blocks_or_uncut sum_root σ refl rise_word w) [
  | inl r ↦ (sum_root, r.0, record { blocks = r.1; value = r.2; root = inl (refl, r.3) })
  | inr up ↦ elim (blocks_or_uncut skew_root σ refl fall_word w) [
    | inl r ↦ (skew_root, r.0, record { blocks = r.1; value = r.2; root = inr (inl (refl, r.3)) })
    | inr down ↦ quotient_decomposes σ w (simple_quotient (length σ) (at σ) h w.apart
        (record { up = λ c k. up c (sum_cut σ c k); down = λ c k. down c (skew_cut σ c k) }))
  ]
]
