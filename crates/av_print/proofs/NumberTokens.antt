-- The numeral of a number, read as an argument, is that number.
use Rattle.std.proofs.Common.{◌≡◌, ◌⊎◌, inl, inr, ℕ, ◌+◌, ◌/◌, ◌%◌, ◌<◌, ◌≤◌, Bool, true, false, not, ◌==◌, ◌||◌, List, [], ◌∷◌, ◌++◌, length, get_or, decimal, refl, sym, ap, Ok, le-leb, arith}
use Rattle.std.specs.Char.{is_ascii_digit}
use Rattle.std.specs.List.{list_all}
use Rattle.std.proofs.lemmas.Bool.{and_from, cases_lt}
use Rattle.std.proofs.lemmas.Bool.Decides.{nat_tests}
use Rattle.std.proofs.lemmas.List.{length-append}
use Rattle.std.proofs.lemmas.Fmt.{decimal_is_IsNumeral_wide, decimal_by_steps_wide, decimal_digit}
use Rattle.av_text.specs.Lines.{is_filled}
use Rattle.av_text.specs.Numerals.{is_digits, is_numeral, number_in}
use Rattle.av_print.proofs.UniqueReading.{Free, IsWritable, is_no_digit, numeral_free}
use Rattle.av_print.proofs.Tokens.{pass_wider, is_token_byte, IsToken}

-- a text with a byte is filled
pub filled_from : (t : List ℕ) → 0 < length t → is_filled t ≡ true
filled_from t some = grind (arith, nat_tests)

-- bytes of which none is no digit are digits
digits_from : (t : List ℕ) → Free is_no_digit t → list_all is_ascii_digit t ≡ true
digits_from [] f = refl
digits_from (c ∷ t) f = and_from (is_ascii_digit c) (list_all is_ascii_digit t) (by (is_ascii_digit c) f.0) (digits_from t f.1)
  where
    by : (b : Bool) → not b ≡ false → b ≡ true
    by true e = refl
    by false e = sym e

-- a numeral is made of digits
pub numeral_digits : (n : ℕ) → list_all is_ascii_digit (decimal n) ≡ true
numeral_digits n = digits_from (decimal n) (numeral_free n)

-- a text of digits is one
pub are_digits : (t : List ℕ) → 0 < length t → list_all is_ascii_digit t ≡ true → is_digits t ≡ true
unfolding is_digits
are_digits t some e = and_from (is_filled t) (list_all is_ascii_digit t) (filled_from t some) e

-- a numeral has a digit, and begins with none that is 0 but where it is `0`
record IsPlain (n : ℕ) (ds : List ℕ) : Type 0 where
  some : 0 < length ds
  first : 0 < n → 48 < get_or ds 0 0

-- a digit at the end leaves the first one
first_kept : (ds : List ℕ) (d : ℕ) → 0 < length ds → get_or (ds ++ d ∷ []) 0 0 ≡ get_or ds 0 0
first_kept [] d some = absurd (omega arith)
first_kept (x ∷ ds) d some = refl

-- so the numerals are made, digit by digit
plain_digit : (n : ℕ) → n < 10 → IsPlain n ((48 + n) ∷ [])
plain_digit n small = record { some = omega arith; first = λ above. omega arith }

plain_more : (n : ℕ) (ds : List ℕ) → 10 ≤ n → IsPlain (n / 10) ds → IsPlain n (ds ++ ((48 + n % 10) ∷ []))
plain_more n ds large plain = record {
  some = omega (arith, length-append ds ((48 + n % 10) ∷ []), plain.some);
  first = λ above. let f = plain.first (omega arith) in let k = first_kept ds (48 + n % 10) plain.some in omega arith;
}

numeral_plain : (n : ℕ) → IsWritable n → IsPlain n (decimal n)
numeral_plain n small = decimal_by_steps_wide IsPlain plain_digit plain_more n small

-- one digit, or a first one that isn't 0
leading : (l x : ℕ) → (l ≡ 1) ⊎ (48 < x) → ((l == 1) || not (x == 48)) ≡ true
leading l x (inl e) = grind (arith, nat_tests)
leading l x (inr lt) = grind (arith, nat_tests)

-- a numeral has a digit
pub numeral_filled : (n : ℕ) → IsWritable n → 0 < length (decimal n)
numeral_filled n small = (decimal_is_IsNumeral_wide n small).0.0

-- the numeral of a number is one
pub numeral_is : (n : ℕ) → IsWritable n → is_numeral (decimal n) ≡ true
unfolding is_numeral
numeral_is n small =
    let plain = numeral_plain n small in
    and_from (is_digits (decimal n)) _ (are_digits (decimal n) plain.some (numeral_digits n)) (leading (length (decimal n)) (get_or (decimal n) 0 0) (by (cases_lt 0 n) plain))
  where
    by : (0 < n) ⊎ (n ≤ 0) → IsPlain n (decimal n) → (length (decimal n) ≡ 1) ⊎ (48 < get_or (decimal n) 0 0)
    by (inl above) plain = inr (plain.first above)
    by (inr zero) plain = inl (ap length (decimal_digit n (omega arith)))

-- it is read as the number, where that is in its range
pub number_said : (low high n : ℕ) → low ≤ n → n ≤ high → IsWritable n → number_in low high (decimal n) ≡ Ok n
unfolding number_in
number_said low high n above below small =
    rw (numeral_is n small, (decimal_is_IsNumeral_wide n small).1, le-leb low n above, le-leb n high below) refl

-- a digit may stand in a token
pub digit_in_token : (c : ℕ) → is_ascii_digit c ≡ true → is_token_byte c ≡ true
digit_in_token c e = grind (arith, nat_tests)

-- a numeral is a token
pub number_token : (n : ℕ) → IsWritable n → IsToken (decimal n)
number_token n small = record {
  filled = filled_from (decimal n) (numeral_filled n small);
  plain = pass_wider is_ascii_digit is_token_byte digit_in_token (decimal n) (numeral_digits n);
}
