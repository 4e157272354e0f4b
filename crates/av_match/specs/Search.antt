-- What the search for an occurrence keeps.
use Rattle.std.specs.Prelude.{◌≡◌, ℕ, suc, ◌-◌, ◌<◌, ◌≤◌, Bool, true, false, List, ◌∷◌, ◌++◌, map, length, take, find, Option, Some, None}
use Rattle.av_perm.specs.Lists.{choices, counting}
use Rattle.av_perm.specs.Contain.{same_order, at_places}
use Rattle.av_perm.specs.Relations.{at, SameOrder}

-- the places chosen lie in the word, and their entries are in the order of the pattern's first ones
pub record IsBegun (w p chosen : List ℕ) : Type 0 where
  pub placed : (s : ℕ) → s < length chosen → (1 ≤ at chosen s) × (at chosen s ≤ length w)
  pub order : SameOrder (at_places w chosen) (take (length chosen) p)

-- and there is one for each entry of the pattern
pub record IsWhole (w p chosen : List ℕ) : Type 0 where
  pub begun : IsBegun w p chosen
  pub count : length chosen ≡ length p

-- and the first of the others is the place, which is not before `from`, with the rest after it
pub record GoesOn (w p chosen : List ℕ) (from place : ℕ) (rest : List ℕ) : Type 0 where
  pub whole : IsWhole w p (chosen ++ place ∷ rest)
  pub first : from ≤ place
  pub rising : (s t : ℕ) → s < t → t < length (place ∷ rest) → at (place ∷ rest) s < at (place ∷ rest) t

-- the first occurrence that begins with the places chosen and goes on with some of xs
unfoldable pub completed : List ℕ → List ℕ → List ℕ → List ℕ → Option (List ℕ)
completed w p chosen xs =
    find (λ ps. same_order (at_places w ps) p)
    (map (λ rest. chosen ++ rest) (choices (length p - length chosen) xs))

-- the places from one on
abbrev pub places_from : List ℕ → ℕ → List ℕ
places_from w from = counting from (suc (length w) - from)

-- the places, where they are found
abbrev pub some_if : Bool → List ℕ → Option (List ℕ)
some_if true ps = Some ps
some_if false ps = None
