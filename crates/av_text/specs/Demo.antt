-- The demo scripts, one for each number.
use Rattle.std.specs.Prelude.{◌≡◌, ℕ, ◌+◌, ◌≤◌, ◌%◌, List, [], ◌∷◌, ◌++◌, map, length, codes, decimal, slice_get, unwrap_or, None, Ok}
use Rattle.av_perm.specs.Laws.{IsLeastGap}
use Rattle.av_perm.specs.Word.{words}
use Rattle.av_perm.specs.declared.StatKind.TheVariants as stat
use Rattle.av_text.specs.declared.limits.TheConstants.{MAX_DEMO, MAX_SCRIPT_BYTES, DEFAULT_FORMAT}
use Rattle.av_text.specs.declared.queries.Query.TheVariants as query
use Rattle.av_text.specs.Lines.{script_lines}
use Rattle.av_text.specs.Read.{read}

-- the basis words that every demo script has: the six simple words of length 5, and the four simple words of length 6 that
-- contain none of them
abbrev pub ten_words : List (List ℕ)
ten_words =
    (2 ∷ 4 ∷ 1 ∷ 5 ∷ 3 ∷ []) ∷ (2 ∷ 5 ∷ 3 ∷ 1 ∷ 4 ∷ []) ∷ (3 ∷ 1 ∷ 5 ∷ 2 ∷ 4 ∷ []) ∷ (3 ∷ 5 ∷ 1 ∷ 4 ∷ 2 ∷ []) ∷ (4 ∷ 1 ∷ 3 ∷ 5 ∷ 2 ∷ []) ∷ (4 ∷ 2 ∷ 5 ∷ 1 ∷ 3 ∷ [])
    ∷ (2 ∷ 4 ∷ 6 ∷ 1 ∷ 3 ∷ 5 ∷ []) ∷ (3 ∷ 6 ∷ 2 ∷ 5 ∷ 1 ∷ 4 ∷ []) ∷ (4 ∷ 1 ∷ 5 ∷ 2 ∷ 6 ∷ 3 ∷ []) ∷ (5 ∷ 3 ∷ 1 ∷ 6 ∷ 4 ∷ 2 ∷ []) ∷ []

-- their text
abbrev pub ten_text : List ℕ
ten_text = codes "24153 25314 31524 35142 41352 42513 246135 362514 415263 531642"

-- the word of length 4 that is added for a number: that at place g mod 24 in lexicographic order, places from 0 on
abbrev pub demo_word : ℕ → List ℕ
demo_word g = unwrap_or (slice_get (words 4) (g % 24)) []

-- a word with entries below 10, by its digits
abbrev pub digits_text : List ℕ → List ℕ
digits_text = map (λ entry. 48 + entry)

-- the demo script with a word and a number: ten basis words and that one, the counts up to length 160, and the inversions of
-- 1,000 drawn members of length 40
abbrev pub demo_text : List ℕ → ℕ → List ℕ
demo_text word g =
    codes "basis " ++ (ten_text ++ (codes " " ++ (digits_text word
    ++ (codes "\ncounts 160\ndrawstat inv 40 " ++ (decimal g ++ codes " 1000\n")))))

-- the demo script of a number
unfoldable pub demo_script : ℕ → List ℕ
demo_script g = demo_text (demo_word g) g

-- its basis
abbrev pub demo_basis : ℕ → List (List ℕ)
demo_basis g = ten_words ++ (demo_word g ∷ [])

-- its lines
abbrev pub basis_line : ℕ → List ℕ
basis_line g = codes "basis " ++ (ten_text ++ (codes " " ++ digits_text (demo_word g)))

abbrev pub counts_line : List ℕ
counts_line = codes "counts 160"

abbrev pub draws_line : ℕ → List ℕ
draws_line g = codes "drawstat inv 40 " ++ (decimal g ++ codes " 1000")

-- the class is settled at the limit, with a gap of at most 5
abbrev pub HasGap : List (List ℕ) → ℕ → Type 0
HasGap basis limit = (k : ℕ) × (k ≤ 5) × IsLeastGap basis limit k

-- the demo script of a number is a script with that basis, the counts up to length 160, and the statistic of the inversions
-- of 1,000 members of length 40 that are drawn by that number
pub record IsDemo (g : ℕ) : Type 0 where
  pub short : length (demo_script g) ≤ MAX_SCRIPT_BYTES
  pub lines : script_lines (demo_script g) ≡ basis_line g ∷ counts_line ∷ draws_line g ∷ []
  pub reads : read (demo_script g) ≡ Ok (record { basis = demo_basis g; union_with = None; require = None; format = DEFAULT_FORMAT; queries = query.Counts 160 ∷ query.DrawStat stat.Inv 40 g 1000 ∷ [] })
  -- from 6 on each limit of lengths settles its class
  pub settled : (limit : ℕ) → 6 ≤ limit → HasGap (demo_basis g) limit

-- so of every number up to the greatest
abbrev pub DemoLaw : Type 0
DemoLaw = (g : ℕ) → g ≤ MAX_DEMO → IsDemo g
