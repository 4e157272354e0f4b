-- What a table of the numbers of words by statistic holds.
use Rattle.std.specs.Prelude.{◌≡◌, ℕ, suc, ◌+◌, ◌*◌, ◌<◌, ◌≤◌, ◌^◌, List, [], length, slice_index_or}
use Rattle.av_sys.specs.declared.terms.System.{System}
use Rattle.av_sys.specs.Terms.{IsWellFormed}
use Rattle.av_sys.specs.TreeLists.{count_at}
use Rattle.av_text.specs.declared.queries.DistKind.{DistKind}
use Rattle.av_text.specs.declared.limits.TheConstants.{MAX_DISTRIBUTION_LENGTH}
use Rattle.av_dist.specs.Kinds.{statistics_at}
use Rattle.av_dist.specs.Rows.{IsRowOf, width}

-- as many as the lists of n digits to the base 25: words of at most 24 entries can be read as such
abbrev pub most_words : ℕ → ℕ
most_words n = (MAX_DISTRIBUTION_LENGTH + 1) ^ n

-- no equation has more trees of a size up to n
abbrev pub HasFewTrees : System → ℕ → Type 0
HasFewTrees S n = (u m : ℕ) → m ≤ n → count_at S u m ≤ most_words m

-- so many numbers, each with a list of words of sizes that sum to `left`, are not more than that for the greatest length
abbrev pub AreFew : List ℕ → ℕ → Type 0
AreFew xs left = length xs * most_words left ≤ most_words MAX_DISTRIBUTION_LENGTH

-- a row for each equation, of one size
pub record LevelHolds (k : DistKind) (S : System) (n : ℕ) (rows : List (List ℕ)) : Type 0 where
  pub long : length rows ≡ length S.equations
  pub wide : (u : ℕ) → u < length S.equations → length (slice_index_or rows u []) ≡ width n
  pub rows_of : (u : ℕ) → u < length S.equations → IsRowOf (statistics_at k S u n) (slice_index_or rows u [])

-- for each size from 1 on, as many as there are
abbrev pub LevelsHold : DistKind → System → List (List (List ℕ)) → Type 0
LevelsHold k S levels = (j : ℕ) → j < length levels → LevelHolds k S (suc j) (slice_index_or levels j [])

-- which system and which statistic a table stands for, and up to which size
pub record Stands : Type 0 where
  pub system : System
  pub kind : DistKind
  pub largest : ℕ

-- the system is well formed, and the sizes are from 1 to one of at most MAX_DISTRIBUTION_LENGTH
pub record IsTable (table : Stands) : Type 0 where
  pub formed : IsWellFormed table.system
  pub least : 1 ≤ table.largest
  pub most : table.largest ≤ MAX_DISTRIBUTION_LENGTH
