-- The options that words set are within their ranges.
use Rattle.std.proofs.Common.{◌≡◌, ℕ, ◌≤◌, List, [], ◌∷◌, Bool, true, false, not, ◌&&◌, ◌||◌, nat_le, Option, Some, None, is_some, IfSome, unwrap_or, Ok, Err, codes, refl, sym, subst, arith, if◌then◌else◌}
use Rattle.std.specs.Option.{option_map, option_and_then}
use Rattle.std.specs.Result.{result_ok}
use Rattle.std.specs.Str.Parse.{digits_value}
use Rattle.std.proofs.lemmas.Bool.{and_parts, leb-true}
use Rattle.std.proofs.lemmas.Slice.Eq.{bytes_eq-Decides}
use Rattle.av_perm.specs.Lists.{same}
use Rattle.av_text.specs.declared.kind.Kind.TheVariants.{BadNumber, Range}
use Rattle.av_text.specs.declared.limits.TheConstants.{MAX_DEMO}
use Rattle.av_text.specs.Numerals.{is_numeral, number_in}
use Rattle.av_session.specs.declared.options.TheConstants.{LEAST_MAX_SIMPLE, GREATEST_MAX_SIMPLE, DEFAULT_MAX_SIMPLE, GREATEST_MAX_SIZE, DEFAULT_MAX_SIZE}
use Rattle.av_session.specs.declared.options.Chosen.{Chosen}
use Rattle.av_session.specs.declared.options.Options.{Options}
use Rattle.av_session.specs.Options.{name_and_value, set_once, choose_max_simple, choose_max_size, choose_demo, choose, is_check, choose_check, choose_all, nothing_chosen, stand_together, with_defaults, set_by, options, AreInRanges, IsAllowed}
use Rattle.av_session.proofs.FirstOptions.{one_word_first, check_first, two_words_first, name_alone_first}

-- a numeral in a range is in the range
number_within : (low high : ℕ) (value : List ℕ) → IfSome (result_ok (number_in low high value)) (λ n. (low ≤ n) × (n ≤ high))
unfolding number_in
number_within low high value = by (is_numeral value) (nat_le low (digits_value 10 value) && nat_le (digits_value 10 value) high) refl
  where
    by : (numeral within : Bool) → (nat_le low (digits_value 10 value) && nat_le (digits_value 10 value) high) ≡ within
        → IfSome (result_ok (if numeral then (if within then Ok (digits_value 10 value) else Err Range) else Err BadNumber)) (λ n. (low ≤ n) × (n ≤ high))
    by true true e = let p = and_parts (nat_le low (digits_value 10 value)) (nat_le (digits_value 10 value) high) e in (leb-true low (digits_value 10 value) p.0, leb-true (digits_value 10 value) high p.1)
    by true false e = tt
    by false within e = tt

-- so is a value that may be set
set_within : (low high : ℕ) (before : Option ℕ) (value : List ℕ) → IfSome (set_once low high before value) (λ n. (low ≤ n) × (n ≤ high))
unfolding set_once
set_within low high None value = number_within low high value
set_within low high (Some k) value = tt

-- an option that is set keeps the ranges
simple_within : (chosen : Chosen) (value : List ℕ) → AreInRanges chosen → IfSome (choose_max_simple chosen value) AreInRanges
simple_within chosen value h = by (set_once LEAST_MAX_SIMPLE GREATEST_MAX_SIMPLE chosen.max_simple value) (set_within LEAST_MAX_SIMPLE GREATEST_MAX_SIMPLE chosen.max_simple value)
  where
    by : (o : Option ℕ) → IfSome o (λ n. (LEAST_MAX_SIMPLE ≤ n) × (n ≤ GREATEST_MAX_SIMPLE)) → IfSome (option_map (λ k. record chosen { max_simple = Some k }) o) AreInRanges
    by None i = tt
    by (Some k) i = record { simple_low = i.0; simple_high = i.1; size_low = h.size_low; size_high = h.size_high; demo_high = h.demo_high }

size_within : (chosen : Chosen) (value : List ℕ) → AreInRanges chosen → IfSome (choose_max_size chosen value) AreInRanges
size_within chosen value h = by (set_once 1 GREATEST_MAX_SIZE chosen.max_size value) (set_within 1 GREATEST_MAX_SIZE chosen.max_size value)
  where
    by : (o : Option ℕ) → IfSome o (λ n. (1 ≤ n) × (n ≤ GREATEST_MAX_SIZE)) → IfSome (option_map (λ l. record chosen { max_size = Some l }) o) AreInRanges
    by None i = tt
    by (Some l) i = record { simple_low = h.simple_low; simple_high = h.simple_high; size_low = i.0; size_high = i.1; demo_high = h.demo_high }

demo_within : (chosen : Chosen) (value : List ℕ) → AreInRanges chosen → IfSome (choose_demo chosen value) AreInRanges
demo_within chosen value h = by (set_once 0 MAX_DEMO chosen.demo value) (set_within 0 MAX_DEMO chosen.demo value)
  where
    by : (o : Option ℕ) → IfSome o (λ n. (0 ≤ n) × (n ≤ MAX_DEMO)) → IfSome (option_map (λ g. record chosen { demo = Some g }) o) AreInRanges
    by None i = tt
    by (Some g) i = record { simple_low = h.simple_low; simple_high = h.simple_high; size_low = h.size_low; size_high = h.size_high; demo_high = i.1 }

-- an option of any name does
choose_within : (chosen : Chosen) (name value : List ℕ) → AreInRanges chosen → IfSome (choose chosen name value) AreInRanges
unfolding choose
choose_within chosen name value h = by (same name (codes "--max-simple")) (same name (codes "--max-size")) (same name (codes "--demo"))
  where
    by : (b c d : Bool) → IfSome (if b then choose_max_simple chosen value else (if c then choose_max_size chosen value else (if d then choose_demo chosen value else None))) AreInRanges
    by true c d = simple_within chosen value h
    by false true d = size_within chosen value h
    by false false true = demo_within chosen value h
    by false false false = tt

-- so does the one that takes no value
check_within : (chosen : Chosen) → AreInRanges chosen → IfSome (choose_check chosen) AreInRanges
unfolding choose_check
check_within chosen h = by chosen.check
  where
    by : (b : Bool) → IfSome (if b then None else Some (record chosen { check = true })) AreInRanges
    by true = tt
    by false = record { simple_low = h.simple_low; simple_high = h.simple_high; size_low = h.size_low; size_high = h.size_high; demo_high = h.demo_high }

-- one step after another does
then_within : (f : Chosen → Option Chosen) (o : Option Chosen) → IfSome o AreInRanges → ((c : Chosen) → AreInRanges c → IfSome (f c) AreInRanges) → IfSome (option_and_then f o) AreInRanges
then_within f None h g = tt
then_within f (Some c) h g = g c h

-- the word of the one that takes no value
checked : (word : List ℕ) (words : List (List ℕ)) (chosen : Chosen) → is_check word ≡ true → IfSome (option_and_then (choose_all words) (choose_check chosen)) AreInRanges → IfSome (choose_all (word ∷ words) chosen) AreInRanges
checked word words chosen e h =
    subst (λ w. IfSome (choose_all (w ∷ words) chosen) AreInRanges) (sym ((bytes_eq-Decides word (codes "--check")).0 e)) (subst (λ o. IfSome o AreInRanges) (check_first words chosen) h)

-- all words do
all_within : (words : List (List ℕ)) (chosen : Chosen) → AreInRanges chosen → IfSome (choose_all words chosen) AreInRanges
unfolding choose_all
all_within [] chosen h = h
all_within (word ∷ []) chosen h = by (name_and_value word) (is_check word) refl refl
  where
    by : (o : Option (List ℕ × List ℕ)) (b : Bool) → name_and_value word ≡ o → is_check word ≡ b → IfSome (choose_all (word ∷ []) chosen) AreInRanges
    by None true e f = checked word [] chosen f (then_within (choose_all []) (choose_check chosen) (check_within chosen h) (λ c k. k))
    by None false e f = subst (λ o. IfSome o AreInRanges) (name_alone_first word chosen e f) tt
    by (Some p) b e f = subst (λ o. IfSome o AreInRanges) (one_word_first word p.0 p.1 [] chosen e) (then_within (choose_all []) (choose chosen p.0 p.1) (choose_within chosen p.0 p.1 h) (λ c k. k))
all_within (word ∷ next ∷ words) chosen h = by (name_and_value word) (is_check word) refl refl (all_within (next ∷ words)) (all_within words)
  where
    by : (o : Option (List ℕ × List ℕ)) (b : Bool) → name_and_value word ≡ o → is_check word ≡ b → ((c : Chosen) → AreInRanges c → IfSome (choose_all (next ∷ words) c) AreInRanges) → ((c : Chosen) → AreInRanges c → IfSome (choose_all words c) AreInRanges)
        → IfSome (choose_all (word ∷ next ∷ words) chosen) AreInRanges
    by None true e k f g = checked word (next ∷ words) chosen k (then_within (choose_all (next ∷ words)) (choose_check chosen) (check_within chosen h) f)
    by None false e k f g = subst (λ o. IfSome o AreInRanges) (two_words_first word next words chosen e k) (then_within (choose_all words) (choose chosen word next) (choose_within chosen word next h) g)
    by (Some p) b e k f g = subst (λ o. IfSome o AreInRanges) (one_word_first word p.0 p.1 (next ∷ words) chosen e) (then_within (choose_all (next ∷ words)) (choose chosen p.0 p.1) (choose_within chosen p.0 p.1 h) f)

-- a bound of a value and of its default
default_low : (low d : ℕ) (o : Option ℕ) → low ≤ d → IfSome o (λ k. low ≤ k) → low ≤ unwrap_or o d
default_low low d None h i = h
default_low low d (Some k) h i = i

default_high : (high d : ℕ) (o : Option ℕ) → d ≤ high → IfSome o (λ k. k ≤ high) → unwrap_or o d ≤ high
default_high high d None h i = h
default_high high d (Some k) h i = i

-- options that may stand together have no demo script beside a claim
pub stands_alone : (c : Chosen) → stand_together c ≡ true → c.check ≡ true → c.demo ≡ None
stands_alone c e f = by c.demo (rw f at e)
  where
    by : (o : Option ℕ) → not (is_some o || is_some c.max_size) ≡ true → o ≡ None
    by None e = refl
    by (Some g) e = absurd (let h : false ≡ true = e in cc)

-- so the options do
pub options_allowed : (words : List (List ℕ)) (o : Options) → options words ≡ Some o → IsAllowed o
unfolding options
options_allowed words o e = by (choose_all words nothing_chosen) (all_within words nothing_chosen (record { simple_low = tt; simple_high = tt; size_low = tt; size_high = tt; demo_high = tt })) e
  where
    allowed : (c : Chosen) → AreInRanges c → stand_together c ≡ true → IsAllowed (with_defaults c)
    allowed c h t = record {
      low = default_low LEAST_MAX_SIMPLE DEFAULT_MAX_SIMPLE c.max_simple (omega arith) h.simple_low;
      high = default_high GREATEST_MAX_SIMPLE DEFAULT_MAX_SIMPLE c.max_simple (omega arith) h.simple_high;
      some = default_low 1 DEFAULT_MAX_SIZE c.max_size (omega arith) h.size_low;
      few = default_high GREATEST_MAX_SIZE DEFAULT_MAX_SIZE c.max_size (omega arith) h.size_high;
      demo = h.demo_high;
      alone = stands_alone c t;
    }

    set : (c : Chosen) → AreInRanges c → (b : Bool) → stand_together c ≡ b → set_by c ≡ Some o → IsAllowed o
    set c h false t e = absurd (let f : None ≡ Some o = rw t at e in cc)
    set c h true t e =
        let f : Some (with_defaults c) ≡ Some o = rw t at e in
        let same : with_defaults c ≡ o = cc in
        subst IsAllowed same (allowed c h t)

    by : (c : Option Chosen) → IfSome c AreInRanges → option_and_then set_by c ≡ Some o → IsAllowed o
    by None h e = absurd (let f : None ≡ Some o = e in cc)
    by (Some c) h e = set c h (stand_together c) refl e
