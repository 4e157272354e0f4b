-- The words of the command line.
use Rattle.std.specs.Prelude.{◌≡◌, ℕ, ◌+◌, ◌≤◌, Bool, true, false, not, ◌&&◌, ◌||◌, ◌==◌, List, [], ◌∷◌, take, drop, if◌then◌else◌, Option, Some, None, is_some, IfSome, unwrap_or, Result, Ok, Err, codes}
use Rattle.std.specs.List.{position}
use Rattle.std.specs.Option.{option_map, option_and_then}
use Rattle.std.specs.Result.{result_ok}
use Rattle.av_perm.specs.Lists.{same}
use Rattle.av_text.specs.declared.limits.TheConstants.{MAX_DEMO}
use Rattle.av_text.specs.Numerals.{number_in}
use Rattle.av_session.specs.declared.options.TheConstants.{LEAST_MAX_SIMPLE, GREATEST_MAX_SIMPLE, DEFAULT_MAX_SIMPLE, GREATEST_MAX_SIZE, DEFAULT_MAX_SIZE}
use Rattle.av_session.specs.declared.options.Chosen.{Chosen}
use Rattle.av_session.specs.declared.options.Options.{Options}
use Rattle.av_session.specs.declared.options.WordsError.{WordsError}
use Rattle.av_session.specs.declared.options.WordsError.TheVariants as error

-- the byte between a name and a value in one word
abbrev pub is_equals : ℕ → Bool
is_equals b = b == 61

-- the name and the value of a word with `=`: what stands before the first one, and what follows it
unfoldable pub name_and_value : List ℕ → Option (List ℕ × List ℕ)
name_and_value word = option_map (λ at. (take at word, drop (at + 1) word)) (position is_equals word)

-- the value of an option that may not be set yet: a numeral from low to high
unfoldable pub set_once : ℕ → ℕ → Option ℕ → List ℕ → Option ℕ
set_once low high None value = result_ok (number_in low high value)
set_once low high (Some before) value = None

-- `--max-simple`, within its limits
abbrev pub choose_max_simple : Chosen → List ℕ → Option Chosen
choose_max_simple chosen value =
    option_map (λ k. record chosen { max_simple = Some k }) (set_once LEAST_MAX_SIMPLE GREATEST_MAX_SIMPLE chosen.max_simple value)

-- `--max-size`, from 1 on
abbrev pub choose_max_size : Chosen → List ℕ → Option Chosen
choose_max_size chosen value =
    option_map (λ l. record chosen { max_size = Some l }) (set_once 1 GREATEST_MAX_SIZE chosen.max_size value)

-- `--demo`, up to the greatest number of a demo script
abbrev pub choose_demo : Chosen → List ℕ → Option Chosen
choose_demo chosen value =
    option_map (λ g. record chosen { demo = Some g }) (set_once 0 MAX_DEMO chosen.demo value)

-- what is chosen after the option of this name and value; there is no option of another name
unfoldable pub choose : Chosen → List ℕ → List ℕ → Option Chosen
choose chosen name value =
    if same name (codes "--max-simple") then choose_max_simple chosen value
    else (if same name (codes "--max-size") then choose_max_size chosen value
    else (if same name (codes "--demo") then choose_demo chosen value else None))

-- the one option that takes no value
abbrev pub is_check : List ℕ → Bool
is_check word = same word (codes "--check")

-- what is chosen after it
unfoldable pub choose_check : Chosen → Option Chosen
choose_check chosen = if chosen.check then None else Some (record chosen { check = true })

-- what is chosen after all these words: an option is a word with `=`, or `--check`, or else a word that is its name and a
-- second one that is its value
unfoldable pub choose_all : List (List ℕ) → Chosen → Option Chosen
choose_all [] = λ chosen. Some chosen
choose_all (word ∷ []) = λ chosen.
    elim (name_and_value word) [
      | Some named ↦ choose chosen named.0 named.1
      | None ↦ if is_check word then choose_check chosen else None
    ]
choose_all (word ∷ next ∷ words) = λ chosen.
    elim (name_and_value word) [
      | Some named ↦ option_and_then (choose_all (next ∷ words)) (choose chosen named.0 named.1)
      | None ↦ if is_check word then option_and_then (choose_all (next ∷ words)) (choose_check chosen)
          else option_and_then (choose_all words) (choose chosen word next)
    ]

-- no option is set
abbrev pub nothing_chosen : Chosen
nothing_chosen = record { max_simple = None; max_size = None; demo = None; check = false }

-- the options where no word sets one
abbrev pub default_options : Options
default_options = record { max_simple = DEFAULT_MAX_SIMPLE; max_size = DEFAULT_MAX_SIZE; demo = None; check = false }

-- the options chosen may stand together: `--check` stands neither with `--demo` nor with `--max-size`
abbrev pub stand_together : Chosen → Bool
stand_together chosen = not (chosen.check && (is_some chosen.demo || is_some chosen.max_size))

-- what was chosen, and the defaults of the others
abbrev pub with_defaults : Chosen → Options
with_defaults chosen = record {
  max_simple = unwrap_or chosen.max_simple default_options.max_simple;
  max_size = unwrap_or chosen.max_size default_options.max_size;
  demo = chosen.demo;
  check = chosen.check;
}

-- the options that were chosen, where they may stand together
abbrev pub set_by : Chosen → Option Options
set_by chosen = if stand_together chosen then Some (with_defaults chosen) else None

-- the options that the words of the command line set, in any order, each at most once; no other words are accepted
unfoldable pub options : List (List ℕ) → Option Options
options words = option_and_then set_by (choose_all words nothing_chosen)

-- the values chosen are in their ranges
pub record AreInRanges (chosen : Chosen) : Type 0 where
  pub simple_low : IfSome chosen.max_simple (λ k. LEAST_MAX_SIMPLE ≤ k)
  pub simple_high : IfSome chosen.max_simple (λ k. k ≤ GREATEST_MAX_SIMPLE)
  pub size_low : IfSome chosen.max_size (λ l. 1 ≤ l)
  pub size_high : IfSome chosen.max_size (λ l. l ≤ GREATEST_MAX_SIZE)
  pub demo_high : IfSome chosen.demo (λ g. g ≤ MAX_DEMO)

-- an answer is the options of the words, unless memory is wanting
abbrev pub GivesOptions : Result Options WordsError → Option Options → Type 0
GivesOptions (Ok options) said = said ≡ Some options
GivesOptions (Err error.Memory) said = Unit {0}
GivesOptions (Err error.Words) said = said ≡ None

-- options within their ranges
pub record IsAllowed (options : Options) : Type 0 where
  pub low : LEAST_MAX_SIMPLE ≤ options.max_simple
  pub high : options.max_simple ≤ GREATEST_MAX_SIMPLE
  pub some : 1 ≤ options.max_size
  pub few : options.max_size ≤ GREATEST_MAX_SIZE
  pub demo : IfSome options.demo (λ g. g ≤ MAX_DEMO)
  pub alone : options.check ≡ true → options.demo ≡ None
