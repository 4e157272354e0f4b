-- A token that is read as a word is its text, where it is made of digits alone or the word has more than nine entries.
use Rattle.std.proofs.Common.{◌≡◌, ◌⊎◌, inl, inr, ℕ, zero, suc, ◌+◌, ◌-◌, ◌<◌, ◌≤◌, Bool, true, false, List, [], ◌∷◌, ◌++◌, map, flat_map, length, get_or, codes, decimal, Some, None, Result, Ok, Err, cond, ◌||◌, nat_lt, nat_le, refl, sym, ap, subst, ◌∙◌, arith, leb-true, ltb-true, ltb-false, lt-ltb, true≢false}
use Rattle.std.specs.Char.{is_ascii_digit}
use Rattle.std.specs.List.{list_all, join_by, join_with_byte}
use Rattle.std.specs.Str.Parse.{digits_value}
use Rattle.std.proofs.lemmas.Bool.{and_parts, cases_lt, le-ltb, or_cases, or_right}
use Rattle.std.proofs.lemmas.Fmt.{decimal_digit}
use Rattle.std.proofs.lemmas.List.Splits.{join_with_byte-slice_split}
use Rattle.av_perm.specs.declared.limits.TheConstants.{MAX_PATTERN_LENGTH}
use Rattle.av_perm.specs.Relations.{IsWord, at}
use Rattle.av_perm.specs.Word.{is_word}
use Rattle.av_perm.proofs.Pigeons.{pigeons}
use Rattle.av_perm.proofs.PermWords.{perm_to}
use Rattle.av_perm.proofs.WordTests.{word_from, word_to}
use Rattle.av_text.specs.declared.kind.Kind.{Kind}
use Rattle.av_text.specs.Numerals.{is_digits, is_numeral}
use Rattle.av_text.specs.Words.{comma_parts, is_short_numeral, is_comma_form, entries_of, checked_word, word_or_fault, word_in}
use Rattle.av_text.proofs.Shorts.{short_below, comma_short}
use Rattle.av_print.specs.Text.{word_text}
use Rattle.av_print.proofs.ReadWords.{short_form, long_form}
use Rattle.av_print.proofs.Tokens.{pass_joined}
use Rattle.av_print.proofs.NumberTokens.{numeral_digits, are_digits}
use Rattle.av_print.proofs.WordTokens.{entries_said}
use Rattle.av_text.specs.Ranges.{IsPattern}
use Rattle.av_check.proofs.Joins.{join_items}
use Rattle.av_check.proofs.Numerals.{numeral_back}

-- a digit is the numeral of the number that it writes
digit_back : (b : ℕ) → is_ascii_digit b ≡ true → decimal (b - 48) ≡ b ∷ []
digit_back b e =
    let p = and_parts _ _ e in
    let above : 48 ≤ b = leb-true 48 b p.0 in
    let below : b ≤ 57 = leb-true b 57 p.1 in
    let same : 48 + (b - 48) ≡ b = omega arith in
    decimal_digit (b - 48) (omega arith) ∙ ap (λ n. n ∷ []) same

-- digits are the numerals of the numbers that they write
digits_back : (t : List ℕ) → list_all is_ascii_digit t ≡ true → flat_map (λ n. [] ++ decimal n) (map (λ b. b - 48) t) ≡ t
digits_back [] e = refl
digits_back (b ∷ t) e =
    let p = and_parts (is_ascii_digit b) (list_all is_ascii_digit t) e in
    rw (digit_back b p.0) (ap (λ s. b ∷ s) (digits_back t p.1))

compact_back : (t : List ℕ) → list_all is_ascii_digit t ≡ true → join_by decimal [] (map (λ b. b - 48) t) ≡ t
compact_back [] e = refl
compact_back (b ∷ t) e = digits_back (b ∷ t) e

-- these numbers are below 10
below_ten : (t : List ℕ) → list_all is_ascii_digit t ≡ true → (s : ℕ) → get_or (map (λ b. b - 48) t) s 0 < 10
below_ten [] e s = omega arith
below_ten (b ∷ t) e zero = let below : b ≤ 57 = leb-true b 57 (and_parts (nat_le 48 b) (nat_le b 57) (and_parts (is_ascii_digit b) (list_all is_ascii_digit t) e).0).1 in omega arith
below_ten (b ∷ t) e (suc s) = below_ten t (and_parts (is_ascii_digit b) (list_all is_ascii_digit t) e).1 s

-- so a word of these has at most nine entries
few_digits : (w : List ℕ) → IsWord w → ((s : ℕ) → at w s < 10) → length w ≤ 9
few_digits w word small =
    pigeons 9 (length w) (λ s. at w s - 1) (λ s h. omega (arith, word.numbers.within s h, small s))
    (λ s t l h. λ e. word.numbers.apart s t l h (omega (arith, e, word.numbers.within s (omega arith), word.numbers.within t h)))

-- short numerals are those of the numbers that they write
shorts_back : (ps : List (List ℕ)) → list_all is_short_numeral ps ≡ true → map decimal (map (digits_value 10) ps) ≡ ps
shorts_back [] e = refl
shorts_back (p ∷ ps) e =
    let q = and_parts (is_short_numeral p) (list_all is_short_numeral ps) e in
    rw (numeral_back p (and_parts (is_numeral p) _ q.0).0 (omega (arith, short_below p q.0)), shorts_back ps q.1) refl

comma_back : (t : List ℕ) → list_all is_short_numeral (comma_parts t) ≡ true → join_by decimal (codes ",") (map (digits_value 10) (comma_parts t)) ≡ t
comma_back t e =
    join_items decimal 44 (map (digits_value 10) (comma_parts t)) ∙ ap (join_with_byte 44) (shorts_back (comma_parts t) e) ∙ join_with_byte-slice_split 44 t

-- the two ways in which a token is read as a word
record IsCompact (t w : List ℕ) : Type 0 where
  digits : is_digits t ≡ true
  entries : w ≡ map (λ b. b - 48) t

record HasCommas (t w : List ℕ) : Type 0 where
  no_digits : is_digits t ≡ false
  form : is_comma_form t ≡ true
  entries : w ≡ map (digits_value 10) (comma_parts t)

record IsChecked (m : ℕ) (w : List ℕ) : Type 0 where
  word : is_word w ≡ true
  short : length w ≤ m

-- the word that checked entries are
checked_is : (m : ℕ) (xs w : List ℕ) → checked_word m xs ≡ Ok w → (w ≡ xs) × IsChecked m w
unfolding checked_word
checked_is m xs w e = by (nat_lt m (length xs)) (is_word xs) _ _ refl refl e
  where
    by : (a b : Bool) (j k : Kind) → nat_lt m (length xs) ≡ a → is_word xs ≡ b → cond a (Err j) (cond b (Ok xs) (Err k)) ≡ Ok w → (w ≡ xs) × IsChecked m w
    by true b j k f g h = cc
    by false false j k f g h = cc
    by false true j k f g h =
        let same : xs ≡ w = cc in
        subst (λ (v : List ℕ). (v ≡ xs) × IsChecked m v) same (refl, record { word = g; short = ltb-false m (length xs) f })

-- a token that is read as a word is so in one of the two ways
read_ways : (m : ℕ) (t w : List ℕ) → Ok w ≡ word_in m t → (IsCompact t w ⊎ HasCommas t w) × IsChecked m w
unfolding word_in entries_of
read_ways m t w e = by (is_digits t) (is_comma_form t) refl refl (sym e)
  where
    by : (a b : Bool) → is_digits t ≡ a → is_comma_form t ≡ b
        → word_or_fault m (cond a (Some (map (λ b. b - 48) t)) (cond b (Some (map (digits_value 10) (comma_parts t))) None)) ≡ Ok w
        → (IsCompact t w ⊎ HasCommas t w) × IsChecked m w
    by true b f g h = let r = checked_is m _ w h in (inl (record { digits = f; entries = r.0 }), r.1)
    by false true f g h = let r = checked_is m _ w h in (inr (record { no_digits = f; form = g; entries = r.0 }), r.1)
    by false false f g h = cc

-- a token in the comma form isn't made of digits alone
comma_in : (t : List ℕ) → is_digits t ≡ false → is_comma_form t ≡ true → list_all is_ascii_digit t ≡ true → ⊥
unfolding is_comma_form
comma_in [] d f all = true≢false (sym f)
comma_in (c ∷ t) d f all = true≢false (sym (are_digits (c ∷ t) (omega arith) all) ∙ d)

-- the word of a token of the one form, and of the other
compact_spelt : (t w : List ℕ) → IsWord w → IsCompact t w → t ≡ word_text w
unfolding is_digits
compact_spelt t w word is =
    let all = (and_parts _ _ is.digits).1 in
    let few = few_digits w word (λ s. subst (λ (v : List ℕ). at v s < 10) (sym is.entries) (below_ten t all s)) in
    sym (short_form w few ∙ ap (join_by decimal []) is.entries ∙ compact_back t all)

commas_spelt : (t w : List ℕ) → 9 < length w → HasCommas t w → t ≡ word_text w
commas_spelt t w long has = sym (long_form w long ∙ ap (join_by decimal (codes ",")) has.entries ∙ comma_back t (comma_short t has.form))

-- a token that is read as a word and is made of digits alone, or whose word has more than nine entries
pub word_spelt : (t w : List ℕ) → Ok w ≡ word_in MAX_PATTERN_LENGTH t → (9 < length w) ⊎ (list_all is_ascii_digit t ≡ true) → IsPattern w × (t ≡ word_text w)
word_spelt t w e way = (record { word = word; short = r.1.short }, by r.0 way)
  where
    r : (IsCompact t w ⊎ HasCommas t w) × IsChecked MAX_PATTERN_LENGTH w
    r = read_ways MAX_PATTERN_LENGTH t w e

    word : IsWord w
    word = word_from w r.1.word

    by : IsCompact t w ⊎ HasCommas t w → (9 < length w) ⊎ (list_all is_ascii_digit t ≡ true) → t ≡ word_text w
    by (inl is) way = compact_spelt t w word is
    by (inr has) (inl long) = commas_spelt t w long has
    by (inr has) (inr all) = absurd (comma_in t has.no_digits has.form all)

-- the text of a word is read as it
pub pattern_said : (w : List ℕ) → IsPattern w → word_in MAX_PATTERN_LENGTH (word_text w) ≡ Ok w
unfolding word_in checked_word
pattern_said w is =
    ap (word_or_fault MAX_PATTERN_LENGTH) (entries_said w (perm_to w is.word (omega (arith, is.short))))
    ∙ rw (le-ltb MAX_PATTERN_LENGTH (length w) is.short, word_to w is.word) refl

-- and made of digits alone, or the word has more than nine entries
pub pattern_way : (w : List ℕ) → (9 < length w) ⊎ (list_all is_ascii_digit (word_text w) ≡ true)
pattern_way w = by (cases_lt 9 (length w))
  where
    by : (9 < length w) ⊎ (length w ≤ 9) → (9 < length w) ⊎ (list_all is_ascii_digit (word_text w) ≡ true)
    by (inl long) = inl long
    by (inr few) = inr (ap (list_all is_ascii_digit) (short_form w few) ∙ pass_joined is_ascii_digit decimal [] numeral_digits refl w)

-- a token that isn't read as a word, or in another spelling, is no word's text
pub word_none : (t : List ℕ) (r : Result (List ℕ) Kind) → r ≡ word_in MAX_PATTERN_LENGTH t → (v : List ℕ) → IsPattern v → t ≡ word_text v
    → (r ≡ Ok v) × ((9 < length v) ⊎ (list_all is_ascii_digit t ≡ true))
word_none t r e v is same =
    (e ∙ ap (word_in MAX_PATTERN_LENGTH) same ∙ pattern_said v is, subst (λ (s : List ℕ). (9 < length v) ⊎ (list_all is_ascii_digit s ≡ true)) (sym same) (pattern_way v))

-- the test of the spelling
pub spelt_way : (w t : List ℕ) → true ≡ (nat_lt 9 (length w) || list_all is_ascii_digit t) → (9 < length w) ⊎ (list_all is_ascii_digit t ≡ true)
spelt_way w t e = elim (or_cases (nat_lt 9 (length w)) (list_all is_ascii_digit t) (sym e)) [
  | inl h ↦ inl (ltb-true 9 (length w) h)
  | inr h ↦ inr h
]

-- it passes where the word that is read has this text
pub spelt_passes : (r : Result (List ℕ) Kind) (v w t : List ℕ) → r ≡ Ok v → r ≡ Ok w → (9 < length v) ⊎ (list_all is_ascii_digit t ≡ true)
    → false ≡ (nat_lt 9 (length w) || list_all is_ascii_digit t) → ⊥
spelt_passes r v w t is was way e = by (subst (λ (x : List ℕ). (9 < length x) ⊎ (list_all is_ascii_digit t ≡ true)) same way)
  where
    same : v ≡ w
    same = let h : ◌≡◌ {A = Result (List ℕ) Kind} (Ok v) (Ok w) = sym is ∙ was in cc

    by : (9 < length w) ⊎ (list_all is_ascii_digit t ≡ true) → ⊥
    by (inl long) = true≢false (sym (e ∙ ap (λ b. b || list_all is_ascii_digit t) (lt-ltb 9 (length w) long)))
    by (inr all) = true≢false (sym (or_right (nat_lt 9 (length w)) (list_all is_ascii_digit t) all) ∙ sym e)

-- words of one text are equal
pub pattern_once : (v w : List ℕ) → IsPattern v → IsPattern w → word_text v ≡ word_text w → v ≡ w
pattern_once v w p q e =
    let h : ◌≡◌ {A = Result (List ℕ) Kind} (Ok v) (Ok w) = sym (pattern_said v p) ∙ ap (word_in MAX_PATTERN_LENGTH) e ∙ pattern_said w q in
    cc
