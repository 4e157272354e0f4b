-- The laws of embeddings.
use Rattle.std.specs.Prelude.{ℕ, suc, ◌<◌, ◌≢◌, ◌↔◌, List, [], length}
use Rattle.std.specs.Ordering.{nat_cmp}
use Rattle.std.specs.Cmp.Lexicographic.{slice_cmp}
use Rattle.av_perm.specs.Members.{IsListOf, Ascending}
use Rattle.av_perm.specs.Relations.{IsOneToLength, Contains, inflate, AreBlocks, block, pattern_of}
use Rattle.av_embed.specs.Embed.{IsEmbedding, fibre, embeddings}

-- the list of embeddings holds each of them once, in lexicographic order
pub record HasEmbeddings (π γ : List ℕ) : Type 0 where
  pub listed : IsListOf (IsEmbedding π γ) (embeddings π γ)
  pub ascending : Ascending (slice_cmp nat_cmp) (embeddings π γ)

-- it does so for every root and word
abbrev pub EmbeddingsLaw : Type 0
EmbeddingsLaw = (π γ : List ℕ) → HasEmbeddings π γ

-- each block contains the pattern of its fibre, where that is not empty
abbrev pub FillsBlocks : List ℕ → List (List ℕ) → List ℕ → List ℕ → Type 0
FillsBlocks π αs γ e = (i : ℕ) → i < length π → fibre γ e (suc i) ≢ [] → Contains (block αs i) (pattern_of (fibre γ e (suc i)))

-- an inflation contains a word exactly where some embedding of it fills the blocks
abbrev pub EmbeddingLaw : Type 0
EmbeddingLaw = (π γ : List ℕ) (αs : List (List ℕ)) → IsOneToLength π → AreBlocks π αs
    → Contains (inflate π αs) γ ↔ ((e : List ℕ) × IsEmbedding π γ e × FillsBlocks π αs γ e)
