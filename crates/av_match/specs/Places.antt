-- Lists of places.
use Rattle.std.specs.Prelude.{ℕ, ◌<◌, ◌≤◌, List, length}
use Rattle.av_perm.specs.Relations.{at}

-- strictly increasing places, from 1 on
pub record ArePlaces (p : List ℕ) : Type 0 where
  pub positive : (s : ℕ) → s < length p → 1 ≤ at p s
  pub rising : (s t : ℕ) → s < t → t < length p → at p s < at p t
