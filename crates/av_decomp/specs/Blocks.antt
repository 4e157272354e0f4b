-- The blocks of a word at spans of places.
use Rattle.std.specs.Prelude.{ℕ, ◌+◌, ◌-◌, List, [], ◌∷◌, map, length, slice_range}
use Rattle.av_perm.specs.Decompose.{Decomposes}
use Rattle.av_perm.specs.Word.{entry}
use Rattle.av_perm.specs.Pattern.{pattern_of}
use Rattle.av_interval.specs.declared.spans.Span.{Span}
use Rattle.av_interval.specs.Intervals.{Tiles}

-- the entries at the places of a span
abbrev pub entries_at : List ℕ → Span → List ℕ
entries_at w s = slice_range w (s.first - 1) s.last

-- their pattern
abbrev pub block_at : List ℕ → Span → List ℕ
block_at w s = pattern_of (entries_at w s)

-- the patterns at the spans of a list
abbrev pub blocks_at : List ℕ → List Span → List (List ℕ)
blocks_at w spans = map (block_at w) spans

-- the first entries of the spans of a list
abbrev pub first_entries : List ℕ → List Span → List ℕ
first_entries w spans = map (λ (s : Span). entry w s.first) spans

-- the root that they make
abbrev pub root_at : List ℕ → List Span → List ℕ
root_at w spans = pattern_of (first_entries w spans)

-- the two spans of n places that are cut after the first k
abbrev pub halves_at : ℕ → ℕ → List Span
halves_at n k = record { first = 1; last = k } ∷ record { first = k + 1; last = n } ∷ []

-- spans whose root and blocks are the decomposition of the word
pub record IsBlockSpans (w : List ℕ) (spans : List Span) : Type 0 where
  pub cover : Tiles 1 (length w) spans
  pub blocks : Decomposes w (root_at w spans) (blocks_at w spans)
