-- What was taken from a source, where it tells the bytes that it has left.
use Rattle.std.specs.Prelude.{ℕ, ◌<◌, ◌≤◌, List, length, Option}
use Rattle.std.specs.Io.KnownBytes.{Consumes, IsAtEnd}

-- some of its bytes were taken, at most so many
abbrev pub TakesUpTo : ℕ → Option (List ℕ) → Option (List ℕ) → Type 0
TakesUpTo most old new = (part : List ℕ) × (length part ≤ most) × Consumes old new part

-- these bytes were taken, and they are all up to the end or to the number
abbrev pub TakesAll : ℕ → Option (List ℕ) → Option (List ℕ) → List ℕ → Type 0
TakesAll most old new bytes = Consumes old new bytes × (length bytes ≤ most) × (length bytes < most → IsAtEnd new)
