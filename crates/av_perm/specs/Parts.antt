-- The root and the blocks of a word, computed.
use Rattle.std.specs.Prelude.{◌≡◌, ℕ, ◌-◌, ◌≤◌, Bool, ◌&&◌, ◌||◌, List, [], ◌∷◌, map, length, take, drop, get_or, flat_map, Option, Some, find}
use Rattle.av_perm.specs.Lists.{same, counting, size_lists}
use Rattle.av_perm.specs.Relations.{IsWord, block, inflate, pattern_of, sum_root, skew_root}
use Rattle.av_perm.specs.Simple.{is_simple, is_sum_indecomposable, is_skew_indecomposable}
use Rattle.av_perm.specs.Decompose.{Decomposes}

-- a root and the words of its blocks
pub record Parts : Type 0 where
  pub root : List ℕ
  pub blocks : List (List ℕ)

-- the word cut into pieces of these lengths
abbrev pub pieces_of : List ℕ → List ℕ → List (List ℕ)
pieces_of w [] = []
pieces_of w (n ∷ lengths) = take n w ∷ pieces_of (drop n w) lengths

abbrev pub first : List ℕ → ℕ
first w = get_or w 0 0

-- the blocks of the pieces, and the root that their first entries make
abbrev pub parts_of : List (List ℕ) → Parts
parts_of pieces = record { root = pattern_of (map first pieces); blocks = map pattern_of pieces }

-- the root is 12 with a sum-indecomposable first block, 21 with a skew-indecomposable one, or simple
abbrev pub is_canonical : Parts → Bool
is_canonical p =
    (same p.root sum_root && is_sum_indecomposable (block p.blocks 0))
    || ((same p.root skew_root && is_skew_indecomposable (block p.blocks 0)) || is_simple p.root)

-- the first way to cut the word that inflates back to it from a canonical root
unfoldable pub parts : List ℕ → Option Parts
parts w =
    find (λ p. same w (inflate p.root p.blocks) && is_canonical p)
    (map (λ lengths. parts_of (pieces_of w lengths)) (flat_map (λ k. size_lists k (length w)) (counting 2 (length w - 1))))

-- of a word of length at least 2 they are those of its decomposition
abbrev pub PartsLaw : Type 0
PartsLaw = (w : List ℕ) → IsWord w → 2 ≤ length w → (p : Parts) × (parts w ≡ Some p) × Decomposes w p.root p.blocks
