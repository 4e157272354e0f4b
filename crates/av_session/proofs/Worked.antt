-- Worked values: whole texts that are due.
use Rattle.std.proofs.Common.{◌≡◌, [], ◌∷◌, true, false, Some, None, codes, refl}
use Rattle.std.specs.Fmt.{digits}
use Rattle.av_perm.specs.Lists.{choices}
use Rattle.av_perm.specs.Word.{arrangements}
use Rattle.av_perm.specs.Contain.{contains}
use Rattle.av_perm.specs.Simple.{is_simple}
use Rattle.av_perm.specs.Gap.{simples, gap}
use Rattle.av_text.specs.Lines.{script_lines, tokens}
use Rattle.av_text.specs.Numerals.{is_digits, is_numeral, number_in}
use Rattle.av_text.specs.Words.{is_comma_form, entries_of, checked_word, word_in}
use Rattle.av_text.specs.Queries.{form_named, query_with_one, query_with, query_of}
use Rattle.av_text.specs.Read.{patterns, patterns_once, tokens_said, line_said, lines_said, read}
use Rattle.av_print.specs.Text.{joined_or_none, word_text, words_text, query_text}
use Rattle.av_session.specs.Options.{name_and_value, set_once, choose, choose_check, choose_all, options, default_options}
use Rattle.av_session.specs.Answers.{answer_text}
use Rattle.av_session.specs.Due.{header_text, settled_header, settled_text, unsettled_text, script_text, fault_text, text_due}

-- a text that is no script
refused : text_due default_options (codes "basis 132\ncount 161\n") ≡ codes "fault 2 7\n"
unfolding digits joined_or_none choices arrangements contains is_simple simples gap script_lines tokens is_digits is_numeral number_in is_comma_form entries_of checked_word word_in form_named query_with_one query_with query_of patterns patterns_once tokens_said line_said lines_said read word_text words_text query_text header_text answer_text settled_header settled_text unsettled_text script_text fault_text text_due
refused = refl

-- the words of a command line
no_words : options [] ≡ Some default_options
unfolding options choose_all choose name_and_value set_once is_digits is_numeral number_in
no_words = refl

simple_in_one : options (codes "--max-simple=6" ∷ []) ≡ Some (record { max_simple = 6; max_size = 20000; demo = None; check = false })
unfolding options choose_all choose name_and_value set_once is_digits is_numeral number_in
simple_in_one = refl

simple_in_two : options (codes "--max-simple" ∷ codes "10" ∷ []) ≡ Some (record { max_simple = 10; max_size = 20000; demo = None; check = false })
unfolding options choose_all choose name_and_value set_once is_digits is_numeral number_in
simple_in_two = refl

size_in_one : options (codes "--max-size=14" ∷ []) ≡ Some (record { max_simple = 8; max_size = 14; demo = None; check = false })
unfolding options choose_all choose name_and_value set_once is_digits is_numeral number_in
size_in_one = refl

size_in_two : options (codes "--max-size" ∷ codes "65536" ∷ []) ≡ Some (record { max_simple = 8; max_size = 65536; demo = None; check = false })
unfolding options choose_all choose name_and_value set_once is_digits is_numeral number_in
size_in_two = refl

in_one_and_one : options (codes "--max-simple=5" ∷ codes "--max-size=1" ∷ []) ≡ Some (record { max_simple = 5; max_size = 1; demo = None; check = false })
unfolding options choose_all choose name_and_value set_once is_digits is_numeral number_in
in_one_and_one = refl

in_two_and_one : options (codes "--max-simple" ∷ codes "5" ∷ codes "--max-size=1" ∷ []) ≡ Some (record { max_simple = 5; max_size = 1; demo = None; check = false })
unfolding options choose_all choose name_and_value set_once is_digits is_numeral number_in
in_two_and_one = refl

in_one_and_two : options (codes "--max-size=1" ∷ codes "--max-simple" ∷ codes "5" ∷ []) ≡ Some (record { max_simple = 5; max_size = 1; demo = None; check = false })
unfolding options choose_all choose name_and_value set_once is_digits is_numeral number_in
in_one_and_two = refl

in_two_and_two : options (codes "--max-size" ∷ codes "1" ∷ codes "--max-simple" ∷ codes "5" ∷ []) ≡ Some (record { max_simple = 5; max_size = 1; demo = None; check = false })
unfolding options choose_all choose name_and_value set_once is_digits is_numeral number_in
in_two_and_two = refl

too_low : options (codes "--max-simple=4" ∷ []) ≡ None
unfolding options choose_all choose name_and_value set_once is_digits is_numeral number_in
too_low = refl

no_option : options (codes "--" ∷ []) ≡ None
unfolding options choose_all choose name_and_value set_once is_digits is_numeral number_in
no_option = refl

size_zero : options (codes "--max-size" ∷ codes "0" ∷ []) ≡ None
unfolding options choose_all choose name_and_value set_once is_digits is_numeral number_in
size_zero = refl

size_too_high : options (codes "--max-size" ∷ codes "65537" ∷ []) ≡ None
unfolding options choose_all choose name_and_value set_once is_digits is_numeral number_in
size_too_high = refl

leading_zero : options (codes "--max-size=015" ∷ []) ≡ None
unfolding options choose_all choose name_and_value set_once is_digits is_numeral number_in
leading_zero = refl

twice : options (codes "--max-simple" ∷ codes "8" ∷ codes "--max-simple" ∷ codes "8" ∷ []) ≡ None
unfolding options choose_all choose name_and_value set_once is_digits is_numeral number_in
twice = refl

no_value : options (codes "--max-size" ∷ []) ≡ None
unfolding options choose_all choose name_and_value set_once is_digits is_numeral number_in
no_value = refl

empty_value : options (codes "--max-size=" ∷ codes "5" ∷ []) ≡ None
unfolding options choose_all choose name_and_value set_once is_digits is_numeral number_in
empty_value = refl

another_word : options (codes "x" ∷ []) ≡ None
unfolding options choose_all choose name_and_value set_once is_digits is_numeral number_in
another_word = refl

-- the number of a demo script
demo_in_one : options (codes "--demo=0" ∷ codes "--max-simple=6" ∷ []) ≡ Some (record { max_simple = 6; max_size = 20000; demo = Some 0; check = false })
unfolding options choose_all choose name_and_value set_once is_digits is_numeral number_in
demo_in_one = refl

demo_in_two : options (codes "--demo" ∷ codes "99999" ∷ []) ≡ Some (record { max_simple = 8; max_size = 20000; demo = Some 99999; check = false })
unfolding options choose_all choose name_and_value set_once is_digits is_numeral number_in
demo_in_two = refl

demo_too_high : options (codes "--demo" ∷ codes "100000" ∷ []) ≡ None
unfolding options choose_all choose name_and_value set_once is_digits is_numeral number_in
demo_too_high = refl

-- the option that takes no value
check_alone : options (codes "--check" ∷ []) ≡ Some (record { max_simple = 8; max_size = 20000; demo = None; check = true })
unfolding options choose_all choose choose_check name_and_value set_once is_digits is_numeral number_in
check_alone = refl

check_first : options (codes "--check" ∷ codes "--max-simple" ∷ codes "6" ∷ []) ≡ Some (record { max_simple = 6; max_size = 20000; demo = None; check = true })
unfolding options choose_all choose choose_check name_and_value set_once is_digits is_numeral number_in
check_first = refl

check_last : options (codes "--max-simple=6" ∷ codes "--check" ∷ []) ≡ Some (record { max_simple = 6; max_size = 20000; demo = None; check = true })
unfolding options choose_all choose choose_check name_and_value set_once is_digits is_numeral number_in
check_last = refl

check_twice : options (codes "--check" ∷ codes "--check" ∷ []) ≡ None
unfolding options choose_all choose choose_check name_and_value set_once is_digits is_numeral number_in
check_twice = refl

check_value : options (codes "--check=1" ∷ []) ≡ None
unfolding options choose_all choose choose_check name_and_value set_once is_digits is_numeral number_in
check_value = refl

check_empty_value : options (codes "--check=" ∷ []) ≡ None
unfolding options choose_all choose choose_check name_and_value set_once is_digits is_numeral number_in
check_empty_value = refl

check_word : options (codes "--check" ∷ codes "1" ∷ []) ≡ None
unfolding options choose_all choose choose_check name_and_value set_once is_digits is_numeral number_in
check_word = refl

check_and_demo : options (codes "--check" ∷ codes "--demo" ∷ codes "3" ∷ []) ≡ None
unfolding options choose_all choose choose_check name_and_value set_once is_digits is_numeral number_in
check_and_demo = refl

size_and_check : options (codes "--max-size" ∷ codes "5" ∷ codes "--check" ∷ []) ≡ None
unfolding options choose_all choose choose_check name_and_value set_once is_digits is_numeral number_in
size_and_check = refl

check_as_value : options (codes "--demo" ∷ codes "--check" ∷ []) ≡ None
unfolding options choose_all choose choose_check name_and_value set_once is_digits is_numeral number_in
check_as_value = refl
