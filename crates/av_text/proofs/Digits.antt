-- What a run of digits writes, digit by digit.
use Rattle.std.proofs.Common.{◌≡◌, ℕ, ◌+◌, ◌-◌, ◌*◌, ◌<◌, ◌≤◌, Bool, true, false, List, length, get_or, take, refl, sym, ◌∙◌, true≢false, arith, leb-true, IsTrue, not, ◌==◌, zero, suc}
use Rattle.std.proofs.lemmas.Bool.{and_parts}
use Rattle.std.specs.Char.{is_ascii_digit}
use Rattle.std.specs.Str.Parse.{digits_value}
use Rattle.std.proofs.lemmas.Str.{digit_value_digit}
use Rattle.std.proofs.lemmas.Str.Parse.{digits_value-take-le}
use Rattle.std.proofs.lemmas.Int.Digits.{digits_value_more}
use Rattle.std.proofs.lemmas.List.Folds.{list_all_at}
use Rattle.av_text.specs.Numerals.{is_digits, is_numeral}

-- each byte of digits is one of `0` to `9`
pub digit_in : (ds : List ℕ) (i : ℕ) → IsTrue (is_digits ds) → i < length ds → (48 ≤ get_or ds i 0) × (get_or ds i 0 ≤ 57)
unfolding is_digits
digit_in ds i d lt = by (is_ascii_digit (get_or ds i 0)) refl
  where
    by : (t : Bool) → is_ascii_digit (get_or ds i 0) ≡ t → (48 ≤ get_or ds i 0) × (get_or ds i 0 ≤ 57)
    by true e = (leb-true 48 _ (and_parts _ _ e).0, leb-true _ 57 (and_parts _ _ e).1)
    by false e = absurd (true≢false (sym (and_parts _ _ d).1 ∙ list_all_at is_ascii_digit ds i 0 lt e))

-- one digit more
pub value_more : (ds : List ℕ) (i : ℕ) → IsTrue (is_digits ds) → i < length ds
    → digits_value 10 (take (i + 1) ds) ≡ digits_value 10 (take i ds) * 10 + (get_or ds i 0 - 48)
value_more ds i d lt =
    let e = digit_value_digit (get_or ds i 0) (digit_in ds i d lt) in
    let m = digits_value_more 10 ds i lt in
    omega (arith, e, m)

-- the first digits write no more than all of them
pub value_front : (ds : List ℕ) (i : ℕ) → digits_value 10 (take i ds) ≤ digits_value 10 ds
value_front ds i = digits_value-take-le 10 ds i (omega arith)

-- digits are one at least
pub digits_filled : (ds : List ℕ) → is_digits ds ≡ true → 0 < length ds
unfolding is_digits
digits_filled ds d = by (length ds) (and_parts _ _ d).0
  where
    by : (n : ℕ) → not (n == 0) ≡ true → 0 < n
    by zero e = absurd (true≢false (sym e))
    by (suc n) e = omega arith

-- a numeral is digits
pub numeral_digits : (ds : List ℕ) → is_numeral ds ≡ true → IsTrue (is_digits ds)
unfolding is_numeral
numeral_digits ds n = (and_parts _ _ n).0

-- for loops over digits
pub ruleset digits = (digit_in, value_more, value_front, digits_filled, numeral_digits)
