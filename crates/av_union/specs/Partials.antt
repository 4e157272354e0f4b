-- What a partial overlay becomes by a choice.
use Rattle.std.specs.Prelude.{◌≡◌, ℕ, Bool, true, false, nat_lt, List, Option, Some, None}
use Rattle.std.specs.List.{list_all}
use Rattle.av_union.specs.declared.choices.Choice.{Choice}
use Rattle.av_union.specs.declared.partials.Partial.{Partial}
use Rattle.av_union.specs.Choices.{place_of, word_after}
use Rattle.av_union.specs.Growth.{places_after, may_grow}

-- the place of the choice comes after those of the partial overlay
abbrev pub is_after : Partial → Choice → Bool
is_after x c = list_all (λ j. nat_lt j (place_of c)) x.places.items

-- `y` is `x` with the entry of the choice
pub record Takes (x : Partial) (c : Choice) (y : Partial) : Type 0 where
  pub word : y.word ≡ word_after x.word c
  pub places : y.places.items ≡ places_after x.places.items c

-- it, or none where the place of the choice doesn't come after the others
abbrev pub IsGrownBy : Partial → Choice → Option Partial → Type 0
IsGrownBy x c None = is_after x c ≡ false
IsGrownBy x c (Some y) = (is_after x c ≡ true) × Takes x c y

-- it, or none where the pattern may not go on by the choice
abbrev pub MayGrow : List ℕ → Partial → Choice → Option Partial → Type 0
MayGrow τ x c None = may_grow τ x.word x.places.items c ≡ false
MayGrow τ x c (Some y) = (may_grow τ x.word x.places.items c ≡ true) × Takes x c y
