-- Where the entries of a pattern may stand: spans of places and of values, and what lies in them.
use Rattle.std.specs.Prelude.{◌≡◌, ℕ, suc, ◌-◌, ◌<◌, ◌≤◌, List, length, get_or, take, drop}
use Rattle.av_perm.specs.Relations.{at}
use Rattle.av_perm.specs.declared.limits.TheConstants.{MAX_LENGTH}
use Rattle.av_match.specs.declared.narrow.Span.{Span}
use Rattle.av_match.specs.declared.narrow.Lines.{Lines}

-- a number lies in a span
abbrev pub Lies : Span → ℕ → Type 0
Lies span x = (span.least ≤ x) × (x ≤ span.most)

-- each entry's number lies in its span
abbrev pub Fit : List Span → (ℕ → ℕ) → Type 0
Fit spans x = (j : ℕ) → j < length spans → Lies (get_or spans j (record { least = 0; most = 0 })) (x j)

-- entries of a pattern of m, by their places from 1
abbrev pub IsOrder : ℕ → List ℕ → Type 0
IsOrder m order = (t : ℕ) → t < length order → (1 ≤ at order t) × (at order t ≤ m)

-- numbers of m entries, that lie on the line and increase in the order, where its entries are the others
pub record IsRoute (line order : List ℕ) (m : ℕ) (x y : ℕ → ℕ) : Type 0 where
  pub placed : (j : ℕ) → j < m → (1 ≤ x j) × (x j ≤ length line)
  pub other : (j : ℕ) → j < m → at line (x j - 1) ≡ y j
  pub rising : (s t : ℕ) → s < t → t < length order → x (at order s - 1) < x (at order t - 1)

-- the place of each value of a word
pub record IsInverse (w places : List ℕ) : Type 0 where
  pub long : length places ≡ MAX_LENGTH
  pub there : (s : ℕ) → s < length w → at places (at w s - 1) ≡ suc s

-- those of a word and of a pattern, and 1, 2, ..
pub record AreLines (w p : List ℕ) (lines : Lines) : Type 0 where
  pub word : IsInverse w lines.word
  pub pattern : IsInverse p lines.pattern
  pub places : (s : ℕ) → s < MAX_LENGTH → at lines.places s ≡ suc s

-- places of m entries and their values: those of the entries chosen, and any from a place on
pub record IsStanding (w : List ℕ) (m : ℕ) (chosen : List ℕ) (from : ℕ) (x y : ℕ → ℕ) : Type 0 where
  pub place : (j : ℕ) → j < length chosen → x j ≡ at chosen j
  pub value : (j : ℕ) → j < length chosen → y j ≡ at w (at chosen j - 1)
  pub first : (j : ℕ) → length chosen ≤ j → j < m → from ≤ x j
  pub placed : (j : ℕ) → j < m → x j ≤ length w
  pub valued : (j : ℕ) → j < m → (1 ≤ y j) × (y j ≤ length w)

-- both lie on their lines, the places in the order of the entries after those chosen, the values in the pattern's order
pub record AreRoutes (w : List ℕ) (lines : Lines) (chosen m : ℕ) (x y : ℕ → ℕ) : Type 0 where
  pub places : IsRoute w (take (m - chosen) (drop chosen lines.places)) m x y
  pub values : IsRoute lines.word (take m lines.pattern) m y x
