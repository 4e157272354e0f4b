-- What a word is: the word 1, or the inflation of a root by blocks.
use Rattle.std.specs.Prelude.{◌≡◌, ℕ, List, [], ◌∷◌, length, Some}
use Rattle.av_perm.specs.Decompose.{Decomposes}
use Rattle.av_perm.specs.Parts.{parts}
use Rattle.av_interval.specs.declared.spans.Span.{Span}
use Rattle.av_interval.specs.Intervals.{Tiles}
use Rattle.av_decomp.specs.Blocks.{blocks_at}
use Rattle.av_decomp.specs.declared.shape.Shape.{Shape}
use Rattle.av_decomp.specs.declared.shape.Shape.TheVariants.{One, Inflated}

-- the spans follow one another from the first place to the last, and the word is the inflation of the root by the blocks
-- there: the root is 12, 21 or simple, and the first block under 12 is no sum, that under 21 no skew sum
pub record HasBlocks (w root : List ℕ) (spans : List Span) : Type 0 where
  pub cover : Tiles 1 (length w) spans
  pub blocks : Decomposes w root (blocks_at w spans)
  pub computed : parts w ≡ Some (record { root = root; blocks = blocks_at w spans })

-- the shape of a word
abbrev pub IsShapeOf : List ℕ → Shape → Type 0
IsShapeOf w One = w ≡ 1 ∷ []
IsShapeOf w (Inflated root spans) = HasBlocks w root spans
