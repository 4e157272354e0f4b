-- What is left of the embeddings from a point on, and where a search through them stands. A point is a list of children
-- that need not reach all places.
use Rattle.std.specs.Prelude.{ℕ, ◌+◌, ◌<◌, ◌≤◌, List, take, length, filter}
use Rattle.std.specs.Ordering.{nat_cmp, is_ge, is_gt}
use Rattle.std.specs.Cmp.Lexicographic.{slice_cmp}
use Rattle.av_perm.specs.Relations.{at}
use Rattle.av_embed.specs.Embed.{IsEmbedding, embeddings}

-- the embeddings that don't come before a point in lexicographic order
unfoldable pub embeddings_from : List ℕ → List ℕ → List ℕ → List (List ℕ)
embeddings_from π γ point = filter (λ e. is_ge (slice_cmp nat_cmp e point)) (embeddings π γ)

-- the embeddings that come after one
unfoldable pub embeddings_after : List ℕ → List ℕ → List ℕ → List (List ℕ)
embeddings_after π γ e = filter (λ f. is_gt (slice_cmp nat_cmp f e)) (embeddings π γ)

-- the children embed as many of the word's first entries
abbrev pub IsBegun : List ℕ → List ℕ → List ℕ → Type 0
IsBegun π γ e = IsEmbedding π (take (length e) γ) e

-- the children embed the first entries of the word, a place is left, and the child that is tried for it is one of the root's,
-- or one more than the last, and below none of these children
pub record StandsAt (π γ e : List ℕ) (from : ℕ) : Type 0 where
  pub begun : IsBegun π γ e
  pub room : length e < length γ
  pub low : 1 ≤ from
  pub high : from ≤ length π + 1
  pub rising : (s : ℕ) → s < length e → at e s ≤ from
