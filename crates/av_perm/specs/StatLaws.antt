-- The statistics of words in the words of the textbook, and the law that the definitions that compute count what they name.
-- Places are counted from 0 here.
use Rattle.std.specs.Prelude.{◌≡◌, ℕ, ◌+◌, ◌<◌, List, length}
use Rattle.av_perm.specs.Members.{IsListOf}
use Rattle.av_perm.specs.Relations.{at}
use Rattle.av_perm.specs.Stat.{inversions, descents, left_to_right_maxima}

-- two places of which the first holds the greater entry
pub record IsInversion (w : List ℕ) (p : ℕ × ℕ) : Type 0 where
  pub rising : p.0 < p.1
  pub placed : p.1 < length w
  pub greater : at w p.1 < at w p.0

-- a place whose entry is greater than the next
pub record IsDescent (w : List ℕ) (s : ℕ) : Type 0 where
  pub placed : s + 1 < length w
  pub greater : at w (s + 1) < at w s

-- a place whose entry is greater than all before it
pub record IsLeftToRightMaximum (w : List ℕ) (s : ℕ) : Type 0 where
  pub placed : s < length w
  pub greatest : (r : ℕ) → r < s → at w r < at w s

-- there are exactly `n` things of which `P` is true
abbrev pub IsCountOf : {A : Type 0} → (A → Type 0) → ℕ → Type 0
IsCountOf {A} P n = (xs : List A) × IsListOf P xs × (length xs ≡ n)

pub record HasStatistics (w : List ℕ) : Type 0 where
  pub inversions_count : IsCountOf (IsInversion w) (inversions w)
  pub descents_count : IsCountOf (IsDescent w) (descents w)
  pub maxima_count : IsCountOf (IsLeftToRightMaximum w) (left_to_right_maxima w)

-- so of every list of numbers
abbrev pub StatisticsLaw : Type 0
StatisticsLaw = (w : List ℕ) → HasStatistics w
