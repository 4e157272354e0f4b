-- Words without `--`, after others, set what they choose by the definition after what was chosen.
use Rattle.std.proofs.Common.{◌≡◌, ℕ, List, [], ◌∷◌, ◌++◌, Bool, true, false, ◌||◌, ◌&&◌, Option, Some, None, is_some, codes, refl, sym, subst, ap, ◌∙◌, inl, inr}
use Rattle.std.specs.List.{list_any}
use Rattle.std.specs.Option.{option_and_then}
use Rattle.clap.specs.Walk.{Text, Row, Walk, idle, option, has_row, used, settled_rows}
use Rattle.clap.specs.Kinds.{or_else}
use Rattle.clap.specs.Faults.{turn_fault}
use Rattle.av_perm.specs.Lists.{same}
use Rattle.av_text.specs.declared.limits.TheConstants.{MAX_DEMO}
use Rattle.av_text.specs.Lines.{is_filled}
use Rattle.av_text.specs.Numerals.{number_in, is_numeral, is_digits}
use Rattle.av_session.specs.declared.options.TheConstants.{LEAST_MAX_SIMPLE, GREATEST_MAX_SIMPLE, GREATEST_MAX_SIZE}
use Rattle.av_session.specs.declared.options.Chosen.{Chosen}
use Rattle.av_session.specs.Command.{Texts, is_dashes, chosen_by}
use Rattle.av_session.specs.Options.{name_and_value, set_once, choose, is_check, choose_check, choose_all}
use Rattle.av_session.proofs.FirstOptions.{one_word_first, check_first, two_words_first, name_alone_first}
use Rattle.av_session.proofs.OptionWords.{Which, simple, size, demo, name, dashed, before, after, begins, IsStrange, IsNamed, named, with_value, strange_chooses, IsCut, cut_of}
use Rattle.av_session.proofs.OptionRows.{rule, check_rule, text, given, Holds, holds_given, holds_check}
use Rattle.av_session.proofs.OptionTexts.{given_chooses, again_chooses, check_chooses, check_again}
use Rattle.av_session.proofs.OptionSteps.{shape, rules, Pending, at, IsFault, settles, step_joined, fault_joined, repeated, step_apart, fault_apart, step_check, fault_check, value_refused, strange_refused, unsettled_refused, IsTaken, step_value, waiting_unsettled}
use Rattle.av_session.proofs.OptionTurns.{said, turn_refused, turn_taken, end_unsettled, end_settled}

first_false : (a b : Bool) → (a || b) ≡ false → a ≡ false
first_false true b e = e
first_false false b e = refl

second_false : (a b : Bool) → (a || b) ≡ false → b ≡ false
second_false true b e = absurd (let f : true ≡ false = e in cc)
second_false false b e = e

-- no word is `--`
abbrev pub HasNoDashes : List Text → Type 0
HasNoDashes words = list_any is_dashes words ≡ false

-- what is set by the words that are left is what they choose after what was chosen
abbrev pub IsRead : List Text → Type 0
IsRead words = (rows : List Row) (p : Pending) (t : Texts) → settles rows p ≡ [] → Holds (settled_rows rules p rows) t → said (at rows p idle) words ≡ option_and_then (choose_all words) (chosen_by t)

no_words : IsRead []
unfolding choose_all
no_words rows p t e h = end_settled rows p t e h ∙ by (chosen_by t)
  where
    by : (o : Option Chosen) → o ≡ option_and_then (λ c. Some c) o
    by None = refl
    by (Some c) = refl

-- a step that chooses nothing
pub none_then : (f : Chosen → Option Chosen) (o : Option Chosen) → ((c : Chosen) → f c ≡ None) → option_and_then f o ≡ None
none_then f None h = refl
none_then f (Some c) h = h c

then_none : (f g : Chosen → Option Chosen) (o : Option Chosen) → option_and_then g o ≡ None → option_and_then (λ c. option_and_then f (g c)) o ≡ None
then_none f g None h = refl
then_none f g (Some c) h = rw h refl

then_then : (f g : Chosen → Option Chosen) (o : Option Chosen) → option_and_then f (option_and_then g o) ≡ option_and_then (λ c. option_and_then f (g c)) o
then_then f g None = refl
then_then f g (Some c) = refl

same_then : (f g : Chosen → Option Chosen) (o : Option Chosen) → ((c : Chosen) → f c ≡ g c) → option_and_then f o ≡ option_and_then g o
same_then f g None h = refl
same_then f g (Some c) h = h c

-- a word that is no option
strange_word : (word : Text) (words : List Text) → same word (codes "--") ≡ false → IsStrange (before word) → IsRead (word ∷ words)
strange_word word words d s rows p t e h = turn_refused (at rows p idle) word words (strange_refused rows p word d s) ∙ sym (none_then (choose_all (word ∷ words)) (chosen_by t) (λ c. by words (cut_of word) c))
  where
    unchecked : before word ≡ word → is_check word ≡ false
    unchecked e = (subst IsStrange e s).3

    by : (words : List Text) → IsCut word → (c : Chosen) → choose_all (word ∷ words) c ≡ None
    by words (inr k) c = sym (one_word_first word (before word) (after word) words c k.0) ∙ ap (option_and_then (choose_all words)) (strange_chooses (before word) (after word) c s)
    by [] (inl k) c = sym (name_alone_first word c k.0 (unchecked k.1))
    by (next ∷ words) (inl k) c = sym (two_words_first word next words c k.0 (unchecked k.1)) ∙ ap (option_and_then (choose_all words)) (strange_chooses word next c (subst IsStrange k.1 s))

-- an option with its value in the same word
joined_word : (k : Which) (v : Text) (words : List Text) → name_and_value (dashed k ++ 61 ∷ v) ≡ Some (dashed k, v) → IsRead words → IsRead ((dashed k ++ 61 ∷ v) ∷ words)
joined_word k v words cuts ih rows p t e h = by (text k t) refl ∙ same_then _ _ (chosen_by t) (λ c. one_word_first (dashed k ++ 61 ∷ v) (dashed k) v words c cuts)
  where
    held : List Row
    held = settled_rows rules p rows

    faults : (b : Bool) → has_row (name k) held ≡ b → turn_fault shape [] (at rows p idle) (dashed k ++ 61 ∷ v) ≡ or_else (or_else (settles rows p) (or_else (repeated b) [])) []
    faults b f = fault_joined k rows p v ∙ ap (λ c. or_else (or_else (settles rows p) (or_else (repeated c) [])) []) f

    by : (o : Option Text) → text k t ≡ o → said (at rows p idle) ((dashed k ++ 61 ∷ v) ∷ words) ≡ option_and_then (λ c. option_and_then (choose_all words) (choose c (dashed k) v)) (chosen_by t)
    by None f =
        turn_taken (at rows p idle) (at (used (rule k) (v ∷ []) held) None idle) (dashed k ++ 61 ∷ v) words (faults false ((h.0 k).1 ∙ ap is_some f) ∙ ap (λ s. or_else (or_else s []) []) e) (step_joined k rows p v)
        ∙ ih (used (rule k) (v ∷ []) held) None (given k v t) refl (holds_given k v held t f h)
        ∙ ap (option_and_then (choose_all words)) (given_chooses k v t f)
        ∙ then_then (choose_all words) (λ c. choose c (dashed k) v) (chosen_by t)
    by (Some w) f =
        turn_refused (at rows p idle) (dashed k ++ 61 ∷ v) words (subst IsFault (sym (faults true ((h.0 k).1 ∙ ap is_some f) ∙ ap (λ s. or_else (or_else s (or_else (repeated true) [])) []) e)) tt)
        ∙ sym (then_none (choose_all words) (λ c. choose c (dashed k) v) (chosen_by t) (again_chooses k v w t f))

-- an option that waits for its value, which is used at the next word
waiting_value : (k : Which) (v : Text) (words : List Text) → IsRead words → HasNoDashes words → (rows : List Row) (t : Texts) → Holds rows t
    → said (at rows (Some (name k, v ∷ [])) idle) words ≡ option_and_then (λ c. option_and_then (choose_all words) (choose c (dashed k) v)) (chosen_by t)
waiting_value k v words ih d rows t h = by (text k t) refl
  where
    settled_by : (k : Which) (b : Bool) → has_row (name k) rows ≡ b → settles rows (Some (name k, v ∷ [])) ≡ or_else (repeated b) []
    settled_by simple b f = rw f refl
    settled_by size b f = rw f refl
    settled_by demo b f = rw f refl

    used_by : (k : Which) → settled_rows rules (Some (name k, v ∷ [])) rows ≡ used (rule k) (v ∷ []) rows
    used_by simple = refl
    used_by size = refl
    used_by demo = refl

    refused : (words : List Text) → HasNoDashes words → IsFault (settles rows (Some (name k, v ∷ []))) → said (at rows (Some (name k, v ∷ [])) idle) words ≡ None
    refused [] d f = end_unsettled rows (Some (name k, v ∷ [])) idle f
    refused (word ∷ words) d f = turn_refused (at rows (Some (name k, v ∷ [])) idle) word words (unsettled_refused rows (Some (name k, v ∷ [])) word f (first_false (is_dashes word) (list_any is_dashes words) d))

    by : (o : Option Text) → text k t ≡ o → said (at rows (Some (name k, v ∷ [])) idle) words ≡ option_and_then (λ c. option_and_then (choose_all words) (choose c (dashed k) v)) (chosen_by t)
    by None f =
        ih rows (Some (name k, v ∷ [])) (given k v t) (settled_by k false ((h.0 k).1 ∙ ap is_some f)) (subst (λ rs. Holds rs (given k v t)) (sym (used_by k)) (holds_given k v rows t f h))
        ∙ ap (option_and_then (choose_all words)) (given_chooses k v t f)
        ∙ then_then (choose_all words) (λ c. choose c (dashed k) v) (chosen_by t)
    by (Some w) f =
        refused words d (subst IsFault (sym (settled_by k true ((h.0 k).1 ∙ ap is_some f))) tt)
        ∙ sym (then_none (choose_all words) (λ c. choose c (dashed k) v) (chosen_by t) (again_chooses k v w t f))

-- what begins with a hyphen is no value
not_digits : (ys : Text) → is_digits (45 ∷ ys) ≡ false
unfolding is_digits
not_digits ys = by (is_filled (45 ∷ ys))
  where
    by : (b : Bool) → (b && false) ≡ false
    by true = refl
    by false = refl

unset : (low high : ℕ) (o : Option ℕ) (ys : Text) → set_once low high o (45 ∷ ys) ≡ None
unfolding set_once number_in is_numeral
unset low high None ys = rw (not_digits ys) refl
unset low high (Some n) ys = refl

pub no_number : (k : Which) (ys : Text) (c : Chosen) → choose c (dashed k) (45 ∷ ys) ≡ None
unfolding choose
no_number k ys c = by k
  where
    by : (k : Which) → choose c (dashed k) (45 ∷ ys) ≡ None
    by simple = rw (unset LEAST_MAX_SIMPLE GREATEST_MAX_SIMPLE c.max_simple ys) refl
    by size = rw (unset 1 GREATEST_MAX_SIZE c.max_size ys) refl
    by demo = rw (unset 0 MAX_DEMO c.demo ys) refl

-- the option that takes no value is none that takes one
pub no_choice : (v : Text) (c : Chosen) → choose c (codes "--check") v ≡ None
unfolding choose
no_choice v c = refl

-- an option without its value, and the next word
apart_word : (k : Which) (words : List Text) → HasNoDashes words → name_and_value (dashed k) ≡ None → ((next : Text) (rest : List Text) → words ≡ next ∷ rest → IsRead rest) → IsRead (dashed k ∷ words)
apart_word k [] d cuts ih rows p t e h =
    turn_taken (at rows p idle) (at (settled_rows rules p rows) (Some (name k, [])) (option (name k))) (dashed k) [] (fault_apart k rows p ∙ ap (λ s. or_else s []) e) (step_apart k rows p)
    ∙ end_unsettled (settled_rows rules p rows) (Some (name k, [])) (option (name k)) (waiting_unsettled k (settled_rows rules p rows))
    ∙ sym (none_then (choose_all (dashed k ∷ [])) (chosen_by t) (λ c. sym (name_alone_first (dashed k) c cuts (with_value k))))
apart_word k (next ∷ rest) d cuts ih rows p t e h =
    turn_taken (at rows p idle) waits (dashed k) (next ∷ rest) (fault_apart k rows p ∙ ap (λ s. or_else s []) e) (step_apart k rows p)
    ∙ by (step_value k held next (begins next) (first_false (is_dashes next) (list_any is_dashes rest) d))
    ∙ same_then _ _ (chosen_by t) (λ c. two_words_first (dashed k) next rest c cuts (with_value k))
  where
    held : List Row
    held = settled_rows rules p rows

    waits : Walk
    waits = at held (Some (name k, [])) (option (name k))

    by : IsTaken k held next → said waits (next ∷ rest) ≡ option_and_then (λ c. option_and_then (choose_all rest) (choose c (dashed k) next)) (chosen_by t)
    by (inl f) = turn_refused waits next rest f.0 ∙ sym (then_none (choose_all rest) (λ c. choose c (dashed k) next) (chosen_by t) (none_then (λ c. choose c (dashed k) next) (chosen_by t) (λ c. ap (choose c (dashed k)) f.1.1 ∙ no_number k f.1.0 c)))
    by (inr f) = turn_taken waits (at held (Some (name k, next ∷ [])) idle) next rest f.0 f.1 ∙ waiting_value k next rest (ih next rest refl) (second_false (is_dashes next) (list_any is_dashes rest) d) held t h

-- the option that takes no value
check_word : (words : List Text) → IsRead words → IsRead (codes "--check" ∷ words)
check_word words ih rows p t e h = by t.check refl ∙ same_then _ _ (chosen_by t) (λ c. check_first words c)
  where
    held : List Row
    held = settled_rows rules p rows

    faults : (b : Bool) → has_row (codes "check") held ≡ b → turn_fault shape [] (at rows p idle) (codes "--check") ≡ or_else (or_else (settles rows p) (or_else (repeated b) [])) []
    faults b f = fault_check rows p ∙ ap (λ c. or_else (or_else (settles rows p) (or_else (repeated c) [])) []) f

    by : (b : Bool) → t.check ≡ b → said (at rows p idle) (codes "--check" ∷ words) ≡ option_and_then (λ c. option_and_then (choose_all words) (choose_check c)) (chosen_by t)
    by false f =
        turn_taken (at rows p idle) (at (used check_rule [] held) None idle) (codes "--check") words (faults false (h.2 ∙ f) ∙ ap (λ s. or_else (or_else s []) []) e) (step_check rows p)
        ∙ ih (used check_rule [] held) None (record t { check = true }) refl (holds_check held t f h)
        ∙ ap (option_and_then (choose_all words)) (check_chooses t f)
        ∙ then_then (choose_all words) choose_check (chosen_by t)
    by true f =
        turn_refused (at rows p idle) (codes "--check") words (subst IsFault (sym (faults true (h.2 ∙ f) ∙ ap (λ s. or_else (or_else s (or_else (repeated true) [])) []) e)) tt)
        ∙ sym (then_none (choose_all words) choose_check (chosen_by t) (check_again t f))

-- with a value it is no option
check_value : (v : Text) (words : List Text) → name_and_value (codes "--check" ++ 61 ∷ v) ≡ Some (codes "--check", v) → IsRead ((codes "--check" ++ 61 ∷ v) ∷ words)
check_value v words cuts rows p t e h =
    turn_refused (at rows p idle) (codes "--check" ++ 61 ∷ v) words (value_refused rows p v)
    ∙ sym (none_then (choose_all ((codes "--check" ++ 61 ∷ v) ∷ words)) (chosen_by t) (λ c. sym (one_word_first (codes "--check" ++ 61 ∷ v) (codes "--check") v words c cuts) ∙ ap (option_and_then (choose_all words)) (no_choice v c)))

-- one word before others
one_more_word : (word : Text) (words : List Text) → HasNoDashes (word ∷ words) → IsRead words → ((next : Text) (rest : List Text) → words ≡ next ∷ rest → IsRead rest) → IsRead (word ∷ words)
one_more_word word words d ih later = by (named (before word)) (cut_of word)
  where
    by : IsNamed (before word) → IsCut word → IsRead (word ∷ words)
    by (inr (inl n)) (inl c) = subst (λ w. IsRead (w ∷ words)) (sym n ∙ c.1) (check_word words ih)
    by (inr (inl n)) (inr c) =
        let e : codes "--check" ++ 61 ∷ after word ≡ word = sym (c.1 ∙ ap (λ b. b ++ 61 ∷ after word) n) in
        subst (λ w. IsRead (w ∷ words)) e (check_value (after word) words (ap name_and_value e ∙ c.0 ∙ ap (λ b. Some (b, after word)) n))
    by (inr (inr s)) c = strange_word word words (first_false (is_dashes word) (list_any is_dashes words) d) s
    by (inl n) (inl c) =
        let e : dashed n.0 ≡ word = sym n.1 ∙ c.1 in
        subst (λ w. IsRead (w ∷ words)) e (apart_word n.0 words (second_false (is_dashes word) (list_any is_dashes words) d) (ap name_and_value e ∙ c.0) later)
    by (inl n) (inr c) =
        let e : dashed n.0 ++ 61 ∷ after word ≡ word = sym (c.1 ∙ ap (λ b. b ++ 61 ∷ after word) n.1) in
        subst (λ w. IsRead (w ∷ words)) e (joined_word n.0 (after word) words (ap name_and_value e ∙ c.0 ∙ ap (λ b. Some (b, after word)) n.1) ih)

pub all_read : (words : List Text) → HasNoDashes words → IsRead words
all_read [] d = no_words
all_read (word ∷ []) d = one_more_word word [] d no_words (λ next rest e. absurd (let f : [] ≡ next ∷ rest = e in cc))
all_read (word ∷ next ∷ rest) d =
    let e = second_false (is_dashes word) (list_any is_dashes (next ∷ rest)) d in
    one_more_word word (next ∷ rest) d (all_read (next ∷ rest) e) (λ n r f. subst IsRead (let g : next ∷ rest ≡ n ∷ r = f in let h : rest ≡ r = cc in h) (all_read rest (second_false (is_dashes next) (list_any is_dashes rest) e)))
