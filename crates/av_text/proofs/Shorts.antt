-- Numerals of at most three digits, and the parts of a token between commas.
use Rattle.std.proofs.Common.{◌≡◌, ℕ, ◌<◌, ◌≤◌, Bool, true, false, List, [], ◌∷◌, length, get_or, refl, sym, ap, ◌∙◌, true≢false, arith, leb-true, IsTrue, nat_le, nat_lt, ◌&&◌, map, Err}
use Rattle.std.proofs.lemmas.Bool.{and_parts, and_left, and_right, le-ltb, lt-leb}
use Rattle.std.proofs.lemmas.List.{get_or-map, length-map}
use Rattle.std.proofs.lemmas.List.Folds.{list_all_at}
use Rattle.std.proofs.lemmas.Str.{digit_value_digit}
use Rattle.std.proofs.lemmas.Str.Parse.{digits_value_short, numerals_by_value, tells_digits}
use Rattle.std.specs.Char.{is_ascii_digit}
use Rattle.std.specs.List.{list_all}
use Rattle.std.specs.Str.Parse.{digits_value, AllDigits}
use Rattle.av_perm.specs.Word.{is_word}
use Rattle.av_text.specs.declared.kind.Kind.TheVariants.{BadWord}
use Rattle.av_text.specs.Numerals.{is_digits}
use Rattle.av_text.specs.Words.{is_short_numeral, is_comma_form, comma_parts, checked_word}
use Rattle.av_text.proofs.Digits.{numeral_digits}

-- digits by std's word for them
each_digit : (ds : List ℕ) → list_all is_ascii_digit ds ≡ true → AllDigits 10 ds
each_digit [] h = tt
each_digit (c ∷ cs) h =
    let p = and_parts (is_ascii_digit c) (list_all is_ascii_digit cs) h in
    let r = and_parts (nat_le 48 c) (nat_le c 57) p.0 in
    let d = digit_value_digit c (leb-true 48 c r.0, leb-true c 57 r.1) in
    let hi = leb-true c 57 r.1 in
    (omega (arith, d, hi), each_digit cs p.1)

-- the same of a whole token
all_digits : (ds : List ℕ) → IsTrue (is_digits ds) → AllDigits 10 ds
unfolding is_digits
all_digits ds h = each_digit ds (and_parts _ _ h).1

-- a numeral of at most three digits is digits
pub short_digits : (ds : List ℕ) → IsTrue (is_short_numeral ds) → IsTrue (is_digits ds)
short_digits ds h = numeral_digits ds (and_parts _ _ h).0

-- and writes a number below 1000
pub short_below : (ds : List ℕ) → IsTrue (is_short_numeral ds) → digits_value 10 ds < 1000
short_below ds h =
    digits_value_short (numerals_by_value (AllDigits 10) tells_digits) ds 3 (all_digits ds (short_digits ds h))
    (leb-true (length ds) 3 (and_parts _ _ h).1)

-- for a loop over the digits of such a numeral
pub ruleset shorts = (short_digits, short_below)

-- each part of the comma form is such a numeral
pub comma_short : (t : List ℕ) → IsTrue (is_comma_form t) → list_all is_short_numeral (comma_parts t) ≡ true
unfolding is_comma_form
comma_short t h = (and_parts _ _ h).1

-- the part at a turn of the loop over the parts
pub part_short : (ps : List (List ℕ)) (i : ℕ) (p : List ℕ) → list_all is_short_numeral ps ≡ true → (i < length ps) × (p ≡ get_or ps i p) → IsTrue (is_short_numeral p)
part_short ps i p all at = by (is_short_numeral (get_or ps i p)) refl
  where
    by : (t : Bool) → is_short_numeral (get_or ps i p) ≡ t → is_short_numeral p ≡ true
    by true e = ap is_short_numeral at.1 ∙ e
    by false e = absurd (true≢false (sym all ∙ list_all_at is_short_numeral ps i p at.0 e))

-- no word has an entry above the number of its entries
too_high : (limit i : ℕ) (xs : List ℕ) → length xs ≤ limit → i < length xs → limit < get_or xs i 0 → checked_word limit xs ≡ Err BadWord
unfolding checked_word
too_high limit i xs fits at high =
    let few : nat_lt limit (length xs) ≡ false = le-ltb _ _ fits in
    let out : (nat_le 1 (get_or xs i 0) && nat_le (get_or xs i 0) (length xs)) ≡ false = and_right _ _ (lt-leb (get_or xs i 0) (length xs) (omega arith)) in
    let bad : list_all (λ x. nat_le 1 x && nat_le x (length xs)) xs ≡ false = list_all_at (λ x. nat_le 1 x && nat_le x (length xs)) xs i 0 at out in
    let not_word : is_word xs ≡ false = and_right _ _ (and_left _ _ bad) in
    rw (few, not_word) refl

-- nor has the comma form a part that writes such an entry
pub part_too_high : (limit i : ℕ) (ps : List (List ℕ)) (p : List ℕ) → length ps ≤ limit → limit < digits_value 10 p → (i < length ps) × (p ≡ get_or ps i p)
    → checked_word limit (map (digits_value 10) ps) ≡ Err BadWord
part_too_high limit i ps p fits high at =
    let v : get_or (map (digits_value 10) ps) i 0 ≡ digits_value 10 p = get_or-map (digits_value 10) ps i p 0 at.0 ∙ ap (digits_value 10) (sym at.1) in
    let len = length-map ps (digits_value 10) in
    too_high limit i (map (digits_value 10) ps) (omega arith) (omega arith) (omega arith)
