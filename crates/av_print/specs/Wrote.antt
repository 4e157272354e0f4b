-- What a call did to the bytes that a sink holds, where it tells them.
use Rattle.std.specs.Prelude.{◌≡◌, ℕ, List, ◌++◌, Option}
use Rattle.std.specs.Io.KnownBytes.{Appends}

-- they grew by a part at the front of the text
pub record AppendsPart (old new : Option (List ℕ)) (text : List ℕ) : Type 0 where
  pub part : List ℕ
  pub rest : List ℕ
  pub cut : text ≡ part ++ rest
  pub grows : Appends old new part
