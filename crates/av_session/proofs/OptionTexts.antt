-- What texts set, as one after another is given.
use Rattle.std.proofs.Common.{◌≡◌, ℕ, Bool, true, false, Option, Some, None, codes, refl}
use Rattle.std.specs.Option.{option_map, option_and_then}
use Rattle.std.specs.Result.{result_ok}
use Rattle.clap.specs.Walk.{Text}
use Rattle.av_text.specs.declared.limits.TheConstants.{MAX_DEMO}
use Rattle.av_text.specs.Numerals.{number_in}
use Rattle.av_session.specs.declared.options.TheConstants.{LEAST_MAX_SIMPLE, GREATEST_MAX_SIMPLE, GREATEST_MAX_SIZE}
use Rattle.av_session.specs.Command.{Texts, value_in, chosen_by}
use Rattle.av_session.specs.Options.{choose, choose_check, set_once}
use Rattle.av_session.specs.declared.options.Chosen.{Chosen}
use Rattle.av_session.proofs.OptionWords.{Which, simple, size, demo, dashed}
use Rattle.av_session.proofs.OptionRows.{text, given}

-- what three values set, beside the option that takes none
abbrev three : Bool → Option (Option ℕ) → Option (Option ℕ) → Option (Option ℕ) → Option Chosen
three check a b d = option_and_then (λ k. option_and_then (λ l. option_map (λ g. record { max_simple = k; max_size = l; demo = g; check = check }) d) b) a

-- one more text sets what its option chooses
pub given_chooses : (k : Which) (v : Text) (t : Texts) → text k t ≡ None → chosen_by (given k v t) ≡ option_and_then (λ c. choose c (dashed k) v) (chosen_by t)
unfolding choose set_once
given_chooses simple v t e = rw e (by (value_in 1 GREATEST_MAX_SIZE t.max_size) (value_in 0 MAX_DEMO t.demo))
  where
    all : (b d : Option ℕ) (n : Option ℕ) → three t.check (option_map (λ k. Some k) n) (Some b) (Some d) ≡ option_map (λ k. record { max_simple = Some k; max_size = b; demo = d; check = t.check }) n
    all b d None = refl
    all b d (Some k) = refl

    none : (b d : Option (Option ℕ)) (n : Option ℕ) → option_and_then (λ k. three t.check (Some k) b d) (Some None) ≡ None → three t.check (option_map (λ k. Some k) n) b d ≡ None
    none b d None f = refl
    none None d (Some k) f = refl
    none (Some b) None (Some k) f = refl
    none (Some b) (Some d) (Some k) f = absurd (let g : Some (record { max_simple = None; max_size = b; demo = d; check = t.check }) ≡ None = f in cc)

    by : (b d : Option (Option ℕ)) → three t.check (option_map (λ k. Some k) (result_ok (number_in LEAST_MAX_SIMPLE GREATEST_MAX_SIMPLE v))) b d ≡ option_and_then (λ c. choose c (codes "--max-simple") v) (three t.check (Some None) b d)
    by None d = none None d (result_ok (number_in LEAST_MAX_SIMPLE GREATEST_MAX_SIMPLE v)) refl
    by (Some b) None = none (Some b) None (result_ok (number_in LEAST_MAX_SIMPLE GREATEST_MAX_SIMPLE v)) refl
    by (Some b) (Some d) = all b d (result_ok (number_in LEAST_MAX_SIMPLE GREATEST_MAX_SIMPLE v))
given_chooses size v t e = rw e (by (value_in LEAST_MAX_SIMPLE GREATEST_MAX_SIMPLE t.max_simple) (value_in 0 MAX_DEMO t.demo))
  where
    all : (a d : Option ℕ) (n : Option ℕ) → three t.check (Some a) (option_map (λ l. Some l) n) (Some d) ≡ option_map (λ l. record { max_simple = a; max_size = Some l; demo = d; check = t.check }) n
    all a d None = refl
    all a d (Some l) = refl

    none : (a : Option ℕ) (n : Option ℕ) → three t.check (Some a) (option_map (λ l. Some l) n) None ≡ None
    none a None = refl
    none a (Some l) = refl

    by : (a d : Option (Option ℕ)) → three t.check a (option_map (λ l. Some l) (result_ok (number_in 1 GREATEST_MAX_SIZE v))) d ≡ option_and_then (λ c. choose c (codes "--max-size") v) (three t.check a (Some None) d)
    by None d = refl
    by (Some a) None = none a (result_ok (number_in 1 GREATEST_MAX_SIZE v))
    by (Some a) (Some d) = all a d (result_ok (number_in 1 GREATEST_MAX_SIZE v))
given_chooses demo v t e = rw e (by (value_in LEAST_MAX_SIMPLE GREATEST_MAX_SIMPLE t.max_simple) (value_in 1 GREATEST_MAX_SIZE t.max_size))
  where
    all : (a b : Option ℕ) (n : Option ℕ) → three t.check (Some a) (Some b) (option_map (λ g. Some g) n) ≡ option_map (λ g. record { max_simple = a; max_size = b; demo = Some g; check = t.check }) n
    all a b None = refl
    all a b (Some g) = refl

    by : (a b : Option (Option ℕ)) → three t.check a b (option_map (λ g. Some g) (result_ok (number_in 0 MAX_DEMO v))) ≡ option_and_then (λ c. choose c (codes "--demo") v) (three t.check a b (Some None))
    by None b = refl
    by (Some a) None = refl
    by (Some a) (Some b) = all a b (result_ok (number_in 0 MAX_DEMO v))

-- an option that has a text chooses nothing more
pub again_chooses : (k : Which) (v w : Text) (t : Texts) → text k t ≡ Some w → option_and_then (λ c. choose c (dashed k) v) (chosen_by t) ≡ None
unfolding choose set_once
again_chooses simple v w t e = rw e (by (result_ok (number_in LEAST_MAX_SIMPLE GREATEST_MAX_SIMPLE w)) (value_in 1 GREATEST_MAX_SIZE t.max_size) (value_in 0 MAX_DEMO t.demo))
  where
    by : (m : Option ℕ) (b d : Option (Option ℕ)) → option_and_then (λ c. choose c (codes "--max-simple") v) (three t.check (option_map (λ n. Some n) m) b d) ≡ None
    by None b d = refl
    by (Some m) None d = refl
    by (Some m) (Some b) None = refl
    by (Some m) (Some b) (Some d) = refl
again_chooses size v w t e = rw e (by (result_ok (number_in 1 GREATEST_MAX_SIZE w)) (value_in LEAST_MAX_SIMPLE GREATEST_MAX_SIMPLE t.max_simple) (value_in 0 MAX_DEMO t.demo))
  where
    by : (m : Option ℕ) (a d : Option (Option ℕ)) → option_and_then (λ c. choose c (codes "--max-size") v) (three t.check a (option_map (λ n. Some n) m) d) ≡ None
    by m None d = refl
    by None (Some a) d = refl
    by (Some m) (Some a) None = refl
    by (Some m) (Some a) (Some d) = refl
again_chooses demo v w t e = rw e (by (result_ok (number_in 0 MAX_DEMO w)) (value_in LEAST_MAX_SIMPLE GREATEST_MAX_SIMPLE t.max_simple) (value_in 1 GREATEST_MAX_SIZE t.max_size))
  where
    by : (m : Option ℕ) (a b : Option (Option ℕ)) → option_and_then (λ c. choose c (codes "--demo") v) (three t.check a b (option_map (λ n. Some n) m)) ≡ None
    by m None b = refl
    by m (Some a) None = refl
    by None (Some a) (Some b) = refl
    by (Some m) (Some a) (Some b) = refl

-- the option that takes no value, where it wasn't given, sets what it chooses
pub check_chooses : (t : Texts) → t.check ≡ false → chosen_by (record t { check = true }) ≡ option_and_then choose_check (chosen_by t)
unfolding choose_check
check_chooses t e = rw e (by (value_in LEAST_MAX_SIMPLE GREATEST_MAX_SIMPLE t.max_simple) (value_in 1 GREATEST_MAX_SIZE t.max_size) (value_in 0 MAX_DEMO t.demo))
  where
    by : (a b d : Option (Option ℕ)) → three true a b d ≡ option_and_then choose_check (three false a b d)
    by None b d = refl
    by (Some a) None d = refl
    by (Some a) (Some b) None = refl
    by (Some a) (Some b) (Some d) = refl

-- where it was given it chooses nothing more
pub check_again : (t : Texts) → t.check ≡ true → option_and_then choose_check (chosen_by t) ≡ None
unfolding choose_check
check_again t e = rw e (by (value_in LEAST_MAX_SIMPLE GREATEST_MAX_SIMPLE t.max_simple) (value_in 1 GREATEST_MAX_SIZE t.max_size) (value_in 0 MAX_DEMO t.demo))
  where
    by : (a b d : Option (Option ℕ)) → option_and_then choose_check (three true a b d) ≡ None
    by None b d = refl
    by (Some a) None d = refl
    by (Some a) (Some b) None = refl
    by (Some a) (Some b) (Some d) = refl
