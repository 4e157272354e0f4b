-- Words of a script, in either form.
use Rattle.std.specs.Prelude.{ℕ, ◌-◌, Bool, ◌&&◌, List, map, length, nat_lt, nat_le, ◌==◌, if◌then◌else◌, Option, Some, None, Result, Ok, Err}
use Rattle.std.specs.List.{list_all, slice_split}
use Rattle.std.specs.Str.Parse.{digits_value}
use Rattle.av_perm.specs.Word.{is_word}
use Rattle.av_text.specs.Numerals.{is_digits, is_numeral}
use Rattle.av_text.specs.declared.kind.Kind.{Kind}
use Rattle.av_text.specs.declared.kind.Kind.TheVariants.{BadWord, LongWord}

-- the byte between numerals
abbrev pub is_comma : ℕ → Bool
is_comma b = b == 44

-- the pieces between commas
abbrev pub comma_parts : List ℕ → List (List ℕ)
comma_parts t = slice_split is_comma t

-- a numeral of one to three digits
abbrev pub is_short_numeral : List ℕ → Bool
is_short_numeral p = is_numeral p && nat_le (length p) 3

-- the comma form: two or more numerals of one to three digits, joined by single commas
unfoldable pub is_comma_form : List ℕ → Bool
is_comma_form t = nat_le 2 (length (comma_parts t)) && list_all is_short_numeral (comma_parts t)

-- the entries of a token: in the compact form its digits, in the comma form the values of its numerals
unfoldable pub entries_of : List ℕ → Option (List ℕ)
entries_of t =
    if is_digits t then Some (map (λ b. b - 48) t)
    else (if is_comma_form t then Some (map (digits_value 10) (comma_parts t)) else None)

-- the word with these entries, at most `limit`
unfoldable pub checked_word : ℕ → List ℕ → Result (List ℕ) Kind
checked_word limit xs = if nat_lt limit (length xs) then Err LongWord else (if is_word xs then Ok xs else Err BadWord)

-- the same, where a token has a form of a word or not
abbrev pub word_or_fault : ℕ → Option (List ℕ) → Result (List ℕ) Kind
word_or_fault limit None = Err BadWord
word_or_fault limit (Some xs) = checked_word limit xs

-- the word of at most `limit` entries that a token spells
unfoldable pub word_in : ℕ → List ℕ → Result (List ℕ) Kind
word_in limit t = word_or_fault limit (entries_of t)
