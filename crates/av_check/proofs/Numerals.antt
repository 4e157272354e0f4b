-- A numeral that is read as a number is the numeral of that number.
use Rattle.std.proofs.Common.{◌≡◌, inl, inr, ℕ, ◌<◌, ◌≤◌, ◌^◌, Bool, true, false, not, ◌||◌, ◌==◌, List, length, get_or, decimal, Ok, Err, cond, rules, refl, sym, ap, ◌∙◌, arith, eqb-true, true≢false}
use Rattle.std.specs.Char.{is_ascii_digit}
use Rattle.std.specs.List.{list_all}
use Rattle.std.specs.Str.Parse.{digits_value}
use Rattle.std.proofs.lemmas.Bool.{and_parts, or_cases}
use Rattle.std.proofs.lemmas.Fmt.{decimal-digits_value}
use Rattle.std.proofs.lemmas.Str.Parse.{IsNumeralModel, numerals_by_value}
use Rattle.av_text.specs.declared.kind.Kind.{Kind}
use Rattle.av_text.specs.Numerals.{is_digits, is_numeral, number_in}
use Rattle.av_text.proofs.Digits.{digits_filled}
use Rattle.av_print.proofs.NumberTokens.{number_said}

-- texts of digits
own : IsNumeralModel (λ ds. list_all is_ascii_digit ds ≡ true) (digits_value 10)
own = numerals_by_value _ (search rules)

-- one digit, or a first one that isn't 0
lone : (n x : ℕ) → ((n == 1) || not (x == 48)) ≡ true → x ≡ 48 → n ≡ 1
lone n x e z = elim (or_cases (n == 1) (not (x == 48)) e) [
  | inl h ↦ eqb-true n 1 h
  | inr h ↦ absurd (true≢false (sym h ∙ ap (λ y. not (y == 48)) z))
]

-- the numeral of the number that a numeral below 2 ^ 64 writes
pub numeral_back : (t : List ℕ) → is_numeral t ≡ true → digits_value 10 t < 2 ^ 64 → decimal (digits_value 10 t) ≡ t
unfolding is_numeral is_digits
numeral_back t e small =
    let p = and_parts (is_digits t) _ e in
    decimal-digits_value own t (and_parts _ _ p.0).1 (digits_filled t p.0) (lone (length t) (get_or t 0 0) p.1) small

-- a choice that gives a number
chosen : (a b : Bool) (v n : ℕ) (j k : Kind) → cond a (cond b (Ok v) (Err j)) (Err k) ≡ Ok n → (a ≡ true) × (v ≡ n)
chosen true true v n j k e = (refl, cc)
chosen true false v n j k e = cc
chosen false b v n j k e = cc

-- the number that is read
pub number_from : (low high n : ℕ) (t : List ℕ) → high < 2 ^ 64 → n ≤ high → Ok n ≡ number_in low high t → t ≡ decimal n
unfolding number_in
number_from low high n t small le e =
    let c = chosen (is_numeral t) _ (digits_value 10 t) n _ _ (sym e) in
    sym (numeral_back t c.0 (omega (arith, c.1))) ∙ ap decimal c.1

-- what is read as no number from low to high is the numeral of none
pub number_none : (low high : ℕ) (k : Kind) (t : List ℕ) → high < 2 ^ 64 → Err k ≡ number_in low high t → (n : ℕ) → low ≤ n → n ≤ high → t ≡ decimal n → ⊥
number_none low high k t small e n above below is =
    let f : Err k ≡ Ok n = e ∙ ap (number_in low high) is ∙ number_said low high n above below (omega arith) in
    cc
