-- The text of a word, read as a token, is that word.
use Rattle.std.proofs.Common.{◌≡◌, inl, inr, ◌⊎◌, ℕ, ◌+◌, ◌-◌, ◌<◌, ◌≤◌, true, false, List, [], ◌∷◌, ◌++◌, length, map, flat_map, codes, decimal, All, refl, sym, ap, subst, ◌∙◌, append-nil, arith, le-leb, Some, Ok, IsTrue}
use Rattle.std.specs.Char.{is_ascii_digit}
use Rattle.std.specs.List.{list_all, join_by, slice_split}
use Rattle.std.specs.Str.Parse.{digits_value}
use Rattle.std.proofs.lemmas.Bool.{and_parts, and_from, and_right, cases_lt, le-ltb}
use Rattle.std.proofs.lemmas.Bool.Decides.{nat_tests}
use Rattle.std.proofs.lemmas.Fmt.{decimal_digit, decimal_is_IsNumeral_wide, length-decimal-le_wide}
use Rattle.std.proofs.lemmas.List.{length-append}
use Rattle.std.proofs.lemmas.List.Folds.{list_all-append}
use Rattle.std.proofs.lemmas.List.Splits.{slice_split_none, slice_split_at}
use Rattle.av_perm.specs.Relations.{IsWord}
use Rattle.av_perm.specs.Word.{is_word, is_perm}
use Rattle.av_perm.proofs.Membership.{Each}
use Rattle.av_perm.proofs.PermWords.{perm_word, perm_short}
use Rattle.av_perm.specs.declared.limits.TheConstants.{MAX_LENGTH}
use Rattle.av_text.specs.Numerals.{is_digits}
use Rattle.av_text.specs.Words.{is_comma, is_short_numeral, is_comma_form, entries_of, checked_word, word_or_fault, word_in}
use Rattle.av_print.specs.Text.{word_text}
use Rattle.av_print.proofs.ReadWords.{entry_least, short_form, long_form}
use Rattle.av_print.proofs.Tokens.{pass_wider, pass_none, pass_joined, is_token_byte, IsToken}
use Rattle.av_print.proofs.NumberTokens.{filled_from, numeral_filled, numeral_digits, are_digits, numeral_is, digit_in_token}

-- a digit is no comma
digit_no_comma : (c : ℕ) → is_ascii_digit c ≡ true → is_comma c ≡ false
digit_no_comma c e = grind (arith, nat_tests)

-- so a numeral has none
no_comma : (n : ℕ) → All (λ c. is_comma c ≡ false) (decimal n)
no_comma n = pass_none is_ascii_digit is_comma digit_no_comma (decimal n) (numeral_digits n)

-- the entries of a word in its digits
digits_back : (w : List ℕ) → Each (λ n. n < 10) w → map (λ b. b - 48) (flat_map (λ n. [] ++ decimal n) w) ≡ w
digits_back [] small = refl
digits_back (n ∷ w) small =
    let d = decimal_digit n (small n (inl refl)) in
    let e : (48 + n) - 48 ≡ n = omega arith in
    rw (d, e, digits_back w (λ m i. small m (inr i))) refl

-- the numerals of a word that is joined by commas
parts : (n : ℕ) (w : List ℕ) → slice_split is_comma (join_by decimal (codes ",") (n ∷ w)) ≡ map decimal (n ∷ w)
parts n [] = ap (slice_split is_comma) (append-nil (decimal n)) ∙ slice_split_none is_comma (decimal n) (no_comma n)
parts n (m ∷ w) =
    slice_split_at is_comma (decimal n) 44 (join_by decimal (codes ",") (m ∷ w)) (no_comma n) refl
    ∙ ap (λ ps. decimal n ∷ ps) (parts m w)

-- they are short, and write the entries
shorts : (w : List ℕ) → Each (λ n. n < 1000) w → list_all is_short_numeral (map decimal w) ≡ true
shorts [] small = refl
shorts (n ∷ w) small =
    let s = small n (inl refl) in
    let short = le-leb (length (decimal n)) 3 (length-decimal-le_wide 3 n (omega arith) (omega arith) (omega arith)) in
    rw (numeral_is n (omega arith), short) (shorts w (λ m i. small m (inr i)))

values : (w : List ℕ) → Each (λ n. n < 1000) w → map (digits_value 10) (map decimal w) ≡ w
values [] small = refl
values (n ∷ w) small =
    let s = small n (inl refl) in
    rw ((decimal_is_IsNumeral_wide n (omega arith)).1, values w (λ m i. small m (inr i))) refl

-- the entries of the two forms of a word's text
short_entries : (w : List ℕ) → 0 < length w → Each (λ n. n < 10) w → entries_of (join_by decimal [] w) ≡ Some w
unfolding entries_of
short_entries [] some small = absurd (omega arith)
short_entries (n ∷ w) some small =
    let filled : 0 < length (join_by decimal [] (n ∷ w)) = omega (arith, length-append (decimal n) (flat_map (λ m. [] ++ decimal m) w), numeral_filled n (omega (arith, small n (inl refl)))) in
    rw (are_digits (join_by decimal [] (n ∷ w)) filled (pass_joined is_ascii_digit decimal [] numeral_digits refl (n ∷ w))) (ap Some (digits_back (n ∷ w) small))

-- a comma is no digit
no_digits : (n m : ℕ) (w : List ℕ) → is_digits (join_by decimal (codes ",") (n ∷ m ∷ w)) ≡ false
unfolding is_digits
no_digits n m w = and_right _ _ (list_all-append is_ascii_digit (decimal n) _ ∙ and_right _ _ refl)

comma_form : (n m : ℕ) (w : List ℕ) → Each (λ k. k < 1000) (n ∷ m ∷ w) → is_comma_form (join_by decimal (codes ",") (n ∷ m ∷ w)) ≡ true
unfolding is_comma_form
comma_form n m w small =
    rw (parts n (m ∷ w)) (and_from _ _ (le-leb 2 (length (map decimal (n ∷ m ∷ w))) (omega arith)) (shorts (n ∷ m ∷ w) small))

long_entries : (w : List ℕ) → 9 < length w → Each (λ n. n < 1000) w → entries_of (join_by decimal (codes ",") w) ≡ Some w
unfolding entries_of
long_entries [] long small = absurd (omega arith)
long_entries (n ∷ []) long small = absurd (omega arith)
long_entries (n ∷ m ∷ w) long small =
    rw (no_digits n m w, comma_form n m w small) (ap Some (ap (map (digits_value 10)) (parts n (m ∷ w)) ∙ values (n ∷ m ∷ w) small))

-- the entries of a word's text
pub entries_said : (w : List ℕ) → IsTrue (is_perm w) → entries_of (word_text w) ≡ Some w
entries_said w is = by (perm_word w is) (perm_short w is) (cases_lt 9 (length w))
  where
    by : IsWord w → length w ≤ MAX_LENGTH → (9 < length w) ⊎ (length w ≤ 9) → entries_of (word_text w) ≡ Some w
    by word short (inl long) =
        ap entries_of (long_form w long) ∙ long_entries w long (λ n i. let l = entry_least w word n i in omega arith)
    by word short (inr few) =
        ap entries_of (short_form w few) ∙ short_entries w (omega (arith, word.filled)) (λ n i. let l = entry_least w word n i in omega arith)

-- so its text is read as the word
pub word_said : (w : List ℕ) → IsTrue (is_perm w) → word_in MAX_LENGTH (word_text w) ≡ Ok w
unfolding word_in checked_word
word_said w is =
    ap (word_or_fault MAX_LENGTH) (entries_said w is) ∙ rw (le-ltb MAX_LENGTH (length w) (perm_short w is), (and_parts (is_word w) _ is).0) refl

-- entries that are joined make a token
joined_token : (separator w : List ℕ) → list_all is_token_byte separator ≡ true → 0 < length w → Each (λ n. n < 1000) w → IsToken (join_by decimal separator w)
joined_token separator [] plain some small = absurd (omega arith)
joined_token separator (n ∷ w) plain some small = record {
  filled = let f = numeral_filled n (let s = small n (inl refl) in omega arith) in
      filled_from (join_by decimal separator (n ∷ w)) (omega (arith, length-append (decimal n) (flat_map (λ m. separator ++ decimal m) w)));
  plain = pass_joined is_token_byte decimal separator (λ m. pass_wider is_ascii_digit is_token_byte digit_in_token (decimal m) (numeral_digits m)) plain (n ∷ w);
}

-- a word is a token
pub word_token : (w : List ℕ) → IsTrue (is_perm w) → IsToken (word_text w)
word_token w is = by (perm_word w is) (perm_short w is) (cases_lt 9 (length w))
  where
    by : IsWord w → length w ≤ MAX_LENGTH → (9 < length w) ⊎ (length w ≤ 9) → IsToken (word_text w)
    by word short (inl long) =
        subst IsToken (sym (long_form w long)) (joined_token (codes ",") w refl (omega arith) (λ n i. let l = entry_least w word n i in omega arith))
    by word short (inr few) =
        subst IsToken (sym (short_form w few)) (joined_token [] w refl (omega (arith, word.filled)) (λ n i. let l = entry_least w word n i in omega arith))
