-- What words choose, read off at the front.
use Rattle.std.proofs.Common.{◌≡◌, ℕ, List, [], ◌∷◌, false, Option, Some, None, codes, refl}
use Rattle.std.specs.Option.{option_and_then}
use Rattle.av_session.specs.declared.options.Chosen.{Chosen}
use Rattle.av_session.specs.Options.{name_and_value, choose, choose_check, choose_all, is_check}

-- where no words are left, what was chosen stays
none_left : (o : Option Chosen) → option_and_then (λ c. Some c) o ≡ o
none_left None = refl
none_left (Some c) = refl

-- a word with `=` is an option, before any words
pub one_word_first : (word name value : List ℕ) (words : List (List ℕ)) (chosen : Chosen) → name_and_value word ≡ Some (name, value)
    → option_and_then (choose_all words) (choose chosen name value) ≡ choose_all (word ∷ words) chosen
unfolding choose_all
one_word_first word name value [] chosen e = rw (e, choose_all) (none_left (choose chosen name value))
one_word_first word name value (next ∷ words) chosen e = rw (e, choose_all) refl

-- so is the one that takes no value
pub check_first : (words : List (List ℕ)) (chosen : Chosen) → option_and_then (choose_all words) (choose_check chosen) ≡ choose_all (codes "--check" ∷ words) chosen
unfolding choose_all name_and_value
check_first [] chosen = none_left (choose_check chosen)
check_first (next ∷ words) chosen = refl

-- any other word without `=` and the next word are an option, before any words
pub two_words_first : (word next : List ℕ) (words : List (List ℕ)) (chosen : Chosen) → name_and_value word ≡ None → is_check word ≡ false
    → option_and_then (choose_all words) (choose chosen word next) ≡ choose_all (word ∷ next ∷ words) chosen
unfolding choose_all
two_words_first word next words chosen e f = rw (e, f, choose_all) refl

-- alone, it is no option
pub name_alone_first : (word : List ℕ) (chosen : Chosen) → name_and_value word ≡ None → is_check word ≡ false → None ≡ choose_all (word ∷ []) chosen
unfolding choose_all
name_alone_first word chosen e f = rw (e, f, choose_all) refl
