-- The first word of a list that a word contains.
use Rattle.std.specs.Prelude.{◌≡◌, ℕ, ◌<◌, false, List, slice_get, Some}
use Rattle.av_perm.specs.Contain.{contains, first_occurrence}
use Rattle.av_match.specs.declared.contained.Bad.{Bad}

-- the word at the index is contained, with its lexicographically first occurrence at the places, and none before it is
pub record IsFirstBad (w : List ℕ) (basis : List (List ℕ)) (bad : Bad) : Type 0 where
  pub pattern : List ℕ
  pub listed : slice_get basis bad.index ≡ Some pattern
  pub occurs : first_occurrence w pattern ≡ Some bad.places
  pub before : (k : ℕ) (other : List ℕ) → k < bad.index → slice_get basis k ≡ Some other → contains w other ≡ false
