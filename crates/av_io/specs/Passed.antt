-- Bytes that wait in memory, and go on to a sink.
use Rattle.std.specs.Prelude.{◌≡◌, ℕ, List, ◌++◌, Option}
use Rattle.std.specs.Io.KnownBytes.{Appends}

-- what a sink holds grew by the bytes at the front of those that waited, and the others wait
pub record PassesOn (old new : Option (List ℕ)) (waited waiting : List ℕ) : Type 0 where
  pub part : List ℕ
  pub cut : waited ≡ part ++ waiting
  pub grows : Appends old new part
