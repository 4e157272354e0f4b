-- The lines and the tokens of a demo script.
use Rattle.std.proofs.Common.{◌≡◌, ℕ, zero, suc, ◌-◌, ◌<◌, ◌≤◌, ◌%◌, ◌^◌, Bool, true, false, not, ◌||◌, ◌==◌, nat_lt, List, [], ◌∷◌, ◌++◌, map, length, codes, decimal, slice_index, Ok, refl, sym, ap, ◌∙◌, subst, arith, inl, inr, length-append, None}
use Rattle.std.specs.List.{list_all, slice_split}
use Rattle.std.specs.Char.{is_ascii_digit, digit_value}
use Rattle.std.specs.Str.Parse.{AllDigits}
use Rattle.std.specs.Str.Lines.{strip_carriage_return}
use Rattle.std.proofs.lemmas.Bool.{ne_eqb, le-leb, and_parts, ltb-true}
use Rattle.std.proofs.lemmas.Fmt.{decimal_digit, decimal_is_IsNumeral, first_decimal, length-decimal-le}
use Rattle.std.proofs.lemmas.Str.Parse.{digit_from_value}
use Rattle.std.proofs.lemmas.Option.{unwrap_or-slice_get}
use Rattle.av_perm.specs.declared.limits.TheConstants.{MAX_PATTERN_LENGTH}
use Rattle.av_perm.specs.Members.{In}
use Rattle.av_perm.specs.declared.StatKind.TheVariants as stat
use Rattle.av_perm.specs.Word.{words, arrangements}
use Rattle.av_perm.proofs.Membership.{In_at}
use Rattle.av_perm.proofs.Tests.{all_from}
use Rattle.av_perm.proofs.WordLists.{words_arrange}
use Rattle.av_text.specs.declared.limits.TheConstants.{MAX_DEMO, MAX_SCRIPT_BYTES, DEFAULT_FORMAT}
use Rattle.av_text.specs.declared.says.Seen.{Seen}
use Rattle.av_text.specs.declared.queries.Query.TheVariants as query
use Rattle.av_text.specs.declared.says.Says.TheVariants.{Basis, Asks}
use Rattle.av_text.specs.Demo.{ten_words, demo_word, digits_text, demo_script, demo_basis, basis_line, counts_line, draws_line, IsDemo}
use Rattle.av_text.specs.Lines.{is_filled, is_line_feed, is_blank, is_allowed, script_lines, tokens}
use Rattle.av_text.specs.Numerals.{is_digits, is_numeral, number_in}
use Rattle.av_text.specs.Read.{unseen, patterns, patterns_once, tokens_said, line_said, lines_said, read, union_words}
use Rattle.av_text.specs.Queries.{form_named, length_in, drawn_in, statistic_named, query_with_one, query_with_four, query_with, query_of}
use Rattle.av_text.specs.Words.{entries_of, checked_word, word_in}
use Rattle.av_text.proofs.DemoGaps.{demo_gap}
use Rattle.av_text.proofs.DemoWords.{words_24}

-- a digit is none of the bytes that cut a text
digit_apart : (c x : ℕ) → digit_value c < 10 → (x < 48) → (c == x) ≡ false
digit_apart c x d h = let k = digit_from_value c d in ne_eqb c x (λ e. omega (arith, k, e))

digit_test : (c : ℕ) → digit_value c < 10 → is_ascii_digit c ≡ true
digit_test c d = let k = digit_from_value c d in rw (le-leb 48 c k.0, le-leb c 57 k.1) refl

digit_allowed : (c : ℕ) → digit_value c < 10 → is_allowed c ≡ true
digit_allowed c d = let k = digit_from_value c d in rw (digit_apart c 9 d (omega arith), le-leb 32 c (omega (arith, k)), le-leb c 126 (omega (arith, k))) refl

-- digits before other bytes are in the piece of these
digits_line : (ds rest more : List ℕ) (ps : List (List ℕ)) → AllDigits 10 ds → slice_split is_line_feed rest ≡ more ∷ ps → slice_split is_line_feed (ds ++ rest) ≡ (ds ++ more) ∷ ps
digits_line [] rest more ps a e = e
digits_line (c ∷ ds) rest more ps a e = rw (digit_apart c 10 a.0 (omega arith), digits_line ds rest more ps a.1 e) refl

digits_token : (ds rest more : List ℕ) (ps : List (List ℕ)) → AllDigits 10 ds → slice_split is_blank rest ≡ more ∷ ps → slice_split is_blank (ds ++ rest) ≡ (ds ++ more) ∷ ps
digits_token [] rest more ps a e = e
digits_token (c ∷ ds) rest more ps a e = rw (digit_apart c 32 a.0 (omega arith), digit_apart c 9 a.0 (omega arith), digits_token ds rest more ps a.1 e) refl

digits_allowed : (ds rest : List ℕ) → AllDigits 10 ds → list_all is_allowed rest ≡ true → list_all is_allowed (ds ++ rest) ≡ true
digits_allowed [] rest a e = e
digits_allowed (c ∷ ds) rest a e = rw (digit_allowed c a.0, digits_allowed ds rest a.1 e) refl

digits_pass : (ds : List ℕ) → AllDigits 10 ds → list_all is_ascii_digit ds ≡ true
digits_pass [] a = refl
digits_pass (c ∷ ds) a = rw (digit_test c a.0, digits_pass ds a.1) refl

none_more : (ds : List ℕ) → ds ++ [] ≡ ds
none_more [] = refl
none_more (c ∷ ds) = ap (λ l. c ∷ l) (none_more ds)

-- the last byte of a text is that of its second part
last_append : (front back : List ℕ) → 0 < length back → slice_index (front ++ back) (length (front ++ back) - 1) ≡ slice_index back (length back - 1)
last_append [] back h = refl
last_append (x ∷ front) back h =
    let e : length (x ∷ (front ++ back)) - 1 ≡ suc (length (front ++ back) - 1) = omega (arith, length-append front back) in
    rw e (last_append front back h)

-- digits end with a digit
digits_last : (ds : List ℕ) → AllDigits 10 ds → 0 < length ds → digit_value (slice_index ds (length ds - 1)) < 10
digits_last [] a h = absurd (omega arith)
digits_last (c ∷ []) a h = a.0
digits_last (c ∷ e ∷ ds) a h =
    let f : length (c ∷ e ∷ ds) - 1 ≡ suc (length (e ∷ ds) - 1) = omega arith in
    rw f (digits_last (e ∷ ds) a.1 (omega arith))

-- a line that doesn't end with a carriage return stays
stays : (line : List ℕ) → (slice_index line (length line - 1) == 13) ≡ false → strip_carriage_return line ≡ line
stays line e = rw e refl

-- each word of length 4, by its digits, is read as itself
pub each_read : map (λ w. word_in MAX_PATTERN_LENGTH (digits_text w)) (words 4) ≡ map (λ w. Ok w) (words 4)
unfolding arrangements word_in entries_of checked_word is_digits
each_read = refl

agree : {A B : Type 0} (f g : A → B) (xs : List A) (x : A) → map f xs ≡ map g xs → In x xs → f x ≡ g x
agree f g [] x e i = absurd i
agree f g (y ∷ ys) x e (inl i) = let h : f y ≡ g y = cc in ap f i ∙ h ∙ ap g (sym i)
agree f g (y ∷ ys) x e (inr i) = agree f g ys x (let h : map f ys ≡ map g ys = cc in h) i

digits_from : (ds : List ℕ) → list_all (λ c. nat_lt (digit_value c) 10) ds ≡ true → AllDigits 10 ds
digits_from [] e = tt
digits_from (c ∷ ds) e = let p = and_parts (nat_lt (digit_value c) 10) (list_all (λ c. nat_lt (digit_value c) 10) ds) e in (ltb-true (digit_value c) 10 p.0, digits_from ds p.1)

-- the digits of each of these words are digits
abbrev has_digits : List ℕ → Bool
has_digits w = list_all (λ c. nat_lt (digit_value c) 10) (digits_text w)

each_digits : list_all has_digits (words 4) ≡ true
unfolding arrangements
each_digits = refl

as_long : (w : List ℕ) → length (digits_text w) ≡ length w
as_long [] = refl
as_long (x ∷ w) = ap suc (as_long w)

no_more : patterns [] ≡ Ok []
unfolding patterns
no_more = refl

one_more : (t : List ℕ) (ts : List (List ℕ)) (w : List ℕ) (ws : List (List ℕ)) → word_in MAX_PATTERN_LENGTH t ≡ Ok w → patterns ts ≡ Ok ws → patterns (t ∷ ts) ≡ Ok (w ∷ ws)
unfolding patterns
one_more t ts w ws e f = rw (e, f) refl

or_true : (a b : Bool) → b ≡ false → (a || not b) ≡ true
or_true true b e = refl
or_true false b e = rw e refl

-- the tokens of the ten words
abbrev ten_tokens : List (List ℕ)
ten_tokens = codes "24153" ∷ codes "25314" ∷ codes "31524" ∷ codes "35142" ∷ codes "41352" ∷ codes "42513" ∷ codes "246135" ∷ codes "362514" ∷ codes "415263" ∷ codes "531642" ∷ []

-- they are read
ten_read : map (word_in MAX_PATTERN_LENGTH) ten_tokens ≡ map (λ w. Ok w) ten_words
unfolding word_in entries_of checked_word is_digits
ten_read = refl

-- words that are read stand before others that are
read_before : (ts : List (List ℕ)) (ws : List (List ℕ)) (us : List (List ℕ)) (vs : List (List ℕ)) → map (word_in MAX_PATTERN_LENGTH) ts ≡ map (λ w. Ok w) ws → patterns us ≡ Ok vs
    → patterns (ts ++ us) ≡ Ok (ws ++ vs)
read_before [] [] us vs e f = f
read_before [] (w ∷ ws) us vs e f = cc
read_before (t ∷ ts) [] us vs e f = cc
read_before (t ∷ ts) (w ∷ ws) us vs e f =
    let h : word_in MAX_PATTERN_LENGTH t ≡ Ok w = cc in
    let i : map (word_in MAX_PATTERN_LENGTH) ts ≡ map (λ w. Ok w) ws = cc in
    one_more t (ts ++ us) w (ws ++ vs) h (read_before ts ws us vs i f)

-- the basis line was seen
abbrev basis_seen : Seen
basis_seen = record { basis = true; union_with = false; require = false; format = false }

-- the other numbers of the last line are read
forty : length_in (codes "40") ≡ Ok 40
unfolding number_in is_numeral is_digits
forty = refl

thousand : drawn_in (codes "1000") ≡ Ok 1000
unfolding number_in is_numeral is_digits
thousand = refl

module _ (g : ℕ) (small : g ≤ MAX_DEMO) where
  pub is_listed : In (demo_word g) (words 4)
  is_listed = subst (λ w. In w (words 4)) (sym (unwrap_or-slice_get (words 4) (g % 24) [])) (In_at (words 4) (g % 24) [] (omega (arith, words_24)))

  pub word_digits : AllDigits 10 (digits_text (demo_word g))
  word_digits = digits_from (digits_text (demo_word g)) (all_from has_digits (words 4) each_digits (demo_word g) is_listed)

  pub word_read : word_in MAX_PATTERN_LENGTH (digits_text (demo_word g)) ≡ Ok (demo_word g)
  word_read = agree (λ w. word_in MAX_PATTERN_LENGTH (digits_text w)) (λ w. Ok w) (words 4) (demo_word g) each_read is_listed

  pub word_long : length (digits_text (demo_word g)) ≡ 4
  word_long = as_long (demo_word g) ∙ (words_arrange 4 (demo_word g) is_listed).1

  pub number_digits : AllDigits 10 (decimal g)
  number_digits = (decimal_is_IsNumeral g (omega arith)).0.1

  pub number_long : (0 < length (decimal g)) × (length (decimal g) ≤ 5)
  number_long = ((decimal_is_IsNumeral g (omega arith)).0.0, length-decimal-le 5 g (omega arith) (omega arith) (omega arith))

  -- the text is cut after the basis line, after the next line and at its end
  end_cut : slice_split is_line_feed (decimal g ++ codes " 1000\n") ≡ (decimal g ++ codes " 1000") ∷ [] ∷ []
  end_cut = digits_line (decimal g) (codes " 1000\n") (codes " 1000") ([] ∷ []) number_digits refl

  rest_cut : slice_split is_line_feed (codes "\ncounts 160\ndrawstat inv 40 " ++ (decimal g ++ codes " 1000\n")) ≡ [] ∷ counts_line ∷ draws_line g ∷ [] ∷ []
  rest_cut = rw end_cut refl

  word_cut : slice_split is_line_feed (digits_text (demo_word g) ++ (codes "\ncounts 160\ndrawstat inv 40 " ++ (decimal g ++ codes " 1000\n"))) ≡ digits_text (demo_word g) ∷ counts_line ∷ draws_line g ∷ [] ∷ []
  word_cut = digits_line (digits_text (demo_word g)) (codes "\ncounts 160\ndrawstat inv 40 " ++ (decimal g ++ codes " 1000\n")) [] (counts_line ∷ draws_line g ∷ [] ∷ []) word_digits rest_cut
      ∙ ap (λ l. l ∷ counts_line ∷ draws_line g ∷ [] ∷ []) (none_more (digits_text (demo_word g)))

  all_cut : slice_split is_line_feed (demo_script g) ≡ basis_line g ∷ counts_line ∷ draws_line g ∷ [] ∷ []
  unfolding demo_script
  all_cut = rw word_cut refl

  first_stays : strip_carriage_return (basis_line g) ≡ basis_line g
  first_stays = stays (basis_line g) (ap (λ b. b == 13) same_last ∙ digit_apart (slice_index (digits_text (demo_word g)) (length (digits_text (demo_word g)) - 1)) 13 (digits_last (digits_text (demo_word g)) word_digits (omega (arith, word_long))) (omega arith))
    where
      same_last : slice_index (basis_line g) (length (basis_line g) - 1) ≡ slice_index (digits_text (demo_word g)) (length (digits_text (demo_word g)) - 1)
      same_last = last_append (codes "basis 24153 25314 31524 35142 41352 42513 246135 362514 415263 531642 ") (digits_text (demo_word g)) (omega (arith, word_long))

  last_stays : strip_carriage_return (draws_line g) ≡ draws_line g
  last_stays = stays (draws_line g) (ap (λ b. b == 13) same_last)
    where
      same_last : slice_index (draws_line g) (length (draws_line g) - 1) ≡ 48
      same_last = last_append (codes "drawstat inv 40 ") (decimal g ++ codes " 1000") (omega (arith, length-append (decimal g) (codes " 1000"))) ∙ last_append (decimal g) (codes " 1000") (omega arith)

  lines_are : script_lines (demo_script g) ≡ basis_line g ∷ counts_line ∷ draws_line g ∷ []
  unfolding script_lines
  lines_are = rw (all_cut, first_stays, last_stays) refl

  -- the tokens of the first and of the last line
  first_tokens : slice_split is_blank (digits_text (demo_word g)) ≡ digits_text (demo_word g) ∷ []
  first_tokens = subst (λ l. slice_split is_blank l ≡ l ∷ []) (none_more (digits_text (demo_word g))) (digits_token (digits_text (demo_word g)) [] [] [] word_digits refl)

  last_tokens : slice_split is_blank (decimal g ++ codes " 1000") ≡ decimal g ∷ codes "1000" ∷ []
  last_tokens = digits_token (decimal g) (codes " 1000") [] (codes "1000" ∷ []) number_digits refl ∙ ap (λ l. l ∷ codes "1000" ∷ []) (none_more (decimal g))

  filled : (ds : List ℕ) → 0 < length ds → is_filled ds ≡ true
  filled ds h = rw (ne_eqb (length ds) 0 (λ e. omega (arith, e, h))) refl

  last_words : tokens (draws_line g) ≡ codes "drawstat" ∷ codes "inv" ∷ codes "40" ∷ decimal g ∷ codes "1000" ∷ []
  unfolding tokens
  last_words = rw (last_tokens, filled (decimal g) number_long.0) refl

  first_allowed : list_all is_allowed (basis_line g) ≡ true
  first_allowed = subst (λ l. list_all is_allowed l ≡ true) (none_more (digits_text (demo_word g))) (digits_allowed (digits_text (demo_word g)) [] word_digits refl)

  last_allowed : list_all is_allowed (draws_line g) ≡ true
  last_allowed = digits_allowed (decimal g) (codes " 1000") number_digits refl

  -- the words of the first line are read
  basis_read : patterns (ten_tokens ++ (digits_text (demo_word g) ∷ [])) ≡ Ok (demo_basis g)
  basis_read = read_before ten_tokens ten_words _ _ ten_read (one_more (digits_text (demo_word g)) [] (demo_word g) [] word_read no_more)

  basis_is : line_said unseen (basis_line g) ≡ Ok (Basis (demo_basis g))
  unfolding line_said tokens_said patterns_once tokens
  basis_is = rw (first_allowed, first_tokens, filled (digits_text (demo_word g)) (omega (arith, word_long)), basis_read) refl

  -- the number is read as itself
  number_read : (high : ℕ) → g ≤ high → number_in 0 high (decimal g) ≡ Ok g
  unfolding number_in is_numeral is_digits
  number_read high h = rw (filled (decimal g) number_long.0, digits_pass (decimal g) number_digits, leading, (decimal_is_IsNumeral g (omega arith)).1, le-leb 0 g (omega arith), le-leb g high h) refl
    where
      leading : ((length (decimal g) == 1) || not (slice_index (decimal g) 0 == 48)) ≡ true
      leading = by g small
        where
          by : (n : ℕ) → n ≤ MAX_DEMO → ((length (decimal n) == 1) || not (slice_index (decimal n) 0 == 48)) ≡ true
          by zero s = rw (decimal_digit 0 (omega arith)) refl
          by (suc n) s = let e = ne_eqb (slice_index (decimal (suc n)) 0) 48 (λ f. omega (arith, f, first_decimal (suc n) (omega arith) (omega arith))) in or_true (length (decimal (suc n)) == 1) (slice_index (decimal (suc n)) 0 == 48) e

  few_bytes : length (demo_script g) ≤ MAX_SCRIPT_BYTES
  unfolding demo_script
  few_bytes = omega (arith, length-append (digits_text (demo_word g)) (codes "\ncounts 160\ndrawstat inv 40 " ++ (decimal g ++ codes " 1000\n")), word_long, length-append (decimal g) (codes " 1000\n"), number_long.1)

  counts_read : line_said basis_seen counts_line ≡ Ok (Asks (query.Counts 160))
  unfolding line_said tokens_said tokens query_of form_named query_with query_with_one number_in is_numeral is_digits
  counts_read = refl

  draws_read : line_said basis_seen (draws_line g) ≡ Ok (Asks (query.DrawStat stat.Inv 40 g 1000))
  unfolding line_said tokens_said query_of form_named query_with query_with_four statistic_named
  draws_read = rw (last_allowed, last_words, forty, number_read (2 ^ 64 - 1) (omega (arith, small)), thousand) refl

  script_read : read (demo_script g) ≡ Ok (record { basis = demo_basis g; union_with = None; require = None; format = DEFAULT_FORMAT; queries = query.Counts 160 ∷ query.DrawStat stat.Inv 40 g 1000 ∷ [] })
  unfolding read lines_said union_words
  script_read = rw (few (length (demo_script g)) few_bytes, lines_are, basis_is, counts_read, draws_read) refl
    where
      few : (n : ℕ) → n ≤ MAX_SCRIPT_BYTES → nat_lt MAX_SCRIPT_BYTES n ≡ false
      few n h = grind arith

  pub demo_holds : IsDemo g
  demo_holds = record { short = few_bytes; lines = lines_are; reads = script_read; settled = demo_gap g }
