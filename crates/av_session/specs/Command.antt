-- The command line as clap reads it, and what the values that it finds set.
use Rattle.std.specs.Prelude.{ℕ, Bool, true, false, Option, Some, None, codes}
use Rattle.std.specs.Option.{option_map, option_and_then}
use Rattle.std.specs.Result.{result_ok}
use Rattle.clap.specs.Walk.{Rule, Text}
use Rattle.clap.specs.Simple.{App, new_app, new_rule, on_top, with_rule}
use Rattle.clap.specs.Matches.{first_value}
use Rattle.clap.specs.declared.parser.matches.Found.{Found}
use Rattle.clap.specs.declared.builder.action.ArgAction.TheVariants.{Set, SetTrue}
use Rattle.av_perm.specs.Lists.{same}
use Rattle.av_text.specs.declared.limits.TheConstants.{MAX_DEMO}
use Rattle.av_text.specs.Numerals.{number_in}
use Rattle.av_session.specs.declared.options.TheConstants.{LEAST_MAX_SIMPLE, GREATEST_MAX_SIMPLE, GREATEST_MAX_SIZE}
use Rattle.av_session.specs.declared.options.Chosen.{Chosen}

-- an option with one value
abbrev pub option_rule : Text → Rule
option_rule name = record (new_rule name) { long = Some name; action = Some Set }

-- one with no value
abbrev pub flag_rule : Text → Rule
flag_rule name = record (new_rule name) { long = Some name; action = Some SetTrue }

-- the command with no argument and without the flags that clap adds
abbrev pub bare : App
bare = on_top (λ s. record s { no_binary_name = true; disable_help_flag = true; disable_version_flag = true }) (new_app (codes "permspec"))

-- the command with its options
abbrev pub permspec : App
permspec = with_rule (with_rule (with_rule (with_rule bare (option_rule (codes "max-simple"))) (option_rule (codes "max-size"))) (option_rule (codes "demo"))) (flag_rule (codes "check"))

-- the word is `--`
abbrev pub is_dashes : Text → Bool
is_dashes word = same word (codes "--")

-- the texts that the options were given, and whether the one without a value was given
pub record Texts : Type 0 where
  pub max_simple : Option Text
  pub max_size : Option Text
  pub demo : Option Text
  pub check : Bool

-- clap keeps the text `true` for an option without a value that was given, and `false` for one that wasn't
abbrev pub is_given : Option Text → Bool
is_given None = false
is_given (Some text) = same text (codes "true")

-- those that clap found
abbrev pub texts_found : Found → Texts
texts_found found = record {
  max_simple = first_value found (codes "max-simple");
  max_size = first_value found (codes "max-size");
  demo = first_value found (codes "demo");
  check = is_given (first_value found (codes "check"));
}

-- the number that an option was given, a numeral from low to high, if it was given any
abbrev pub value_in : ℕ → ℕ → Option Text → Option (Option ℕ)
value_in low high None = Some None
value_in low high (Some text) = option_map (λ n. Some n) (result_ok (number_in low high text))

-- what the texts set, where each is within its range
abbrev pub chosen_by : Texts → Option Chosen
chosen_by texts = option_and_then (λ k. option_and_then (λ l. option_map (λ g. record { max_simple = k; max_size = l; demo = g; check = texts.check })
    (value_in 0 MAX_DEMO texts.demo))
    (value_in 1 GREATEST_MAX_SIZE texts.max_size))
    (value_in LEAST_MAX_SIMPLE GREATEST_MAX_SIMPLE texts.max_simple)
