-- Rows of numbers, by value, and their products.
use Rattle.std.specs.Prelude.{◌≡◌, ℕ, zero, suc, ◌+◌, ◌-◌, ◌*◌, ◌/◌, ◌<◌, ◌^◌, cond, List, length, count_by, nat_eq, nat_le}
use Rattle.av_perm.specs.Relations.{at}

-- how often a number stands in a list
abbrev pub how_often : List ℕ → ℕ → ℕ
how_often xs v = count_by (λ x. nat_eq x v) xs

-- the row has for each number how often it stands in the list, also past the row's end: 0
abbrev pub IsRowOf : List ℕ → List ℕ → Type 0
IsRowOf xs row = (v : ℕ) → at row v ≡ how_often xs v

-- one more than the number of pairs of n places: the statistics of words of length n are below it
abbrev pub width : ℕ → ℕ
width n = n * (n - 1) / 2 + 1

-- what a row has at a value when its values are raised by s
abbrev pub moved : ℕ → List ℕ → ℕ → ℕ
moved s g v = cond (nat_le s v) (at g (v - s)) 0

-- what the product of the first k numbers of a row and another row has at a value, when its values are raised by s
abbrev pub product : ℕ → ℕ → List ℕ → List ℕ → ℕ → ℕ
product zero s f g v = 0
product (suc k) s f g v = product k s f g v + at f k * moved (s + k) g v

-- there is room in a row to add f of each value to its number
abbrev pub HasRoomFor : (ℕ → ℕ) → List ℕ → Type 0
HasRoomFor f row = (v : ℕ) → v < length row → at row v + f v < 2 ^ 128

-- it is added, as far as the row reaches
pub record Adds (f : ℕ → ℕ) (old new : List ℕ) : Type 0 where
  pub long : length new ≡ length old
  pub numbers : (v : ℕ) → v < length old → at new v ≡ at old v + f v
