-- Numerals of a script.
use Rattle.std.specs.Prelude.{ℕ, Bool, not, ◌&&◌, ◌||◌, List, length, nat_le, ◌==◌, slice_index, if◌then◌else◌, Result, Ok, Err}
use Rattle.std.specs.List.{list_all}
use Rattle.std.specs.Str.Parse.{digits_value}
use Rattle.std.specs.Char.{is_ascii_digit}
use Rattle.av_text.specs.Lines.{is_filled}
use Rattle.av_text.specs.declared.kind.Kind.{Kind}
use Rattle.av_text.specs.declared.kind.Kind.TheVariants.{BadNumber, Range}

-- one or more digits
unfoldable pub is_digits : List ℕ → Bool
is_digits t = is_filled t && list_all is_ascii_digit t

-- `0`, or digits of which the first isn't `0`
unfoldable pub is_numeral : List ℕ → Bool
is_numeral t = is_digits t && ((length t == 1) || not (slice_index t 0 == 48))

-- the number that a numeral writes, from low to high
unfoldable pub number_in : ℕ → ℕ → List ℕ → Result ℕ Kind
number_in low high t =
    if is_numeral t
    then (if nat_le low (digits_value 10 t) && nat_le (digits_value 10 t) high then Ok (digits_value 10 t) else Err Range)
    else Err BadNumber
