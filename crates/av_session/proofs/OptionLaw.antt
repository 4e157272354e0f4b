-- What clap finds in words sets the options that the definition says, and where `--` is among them no options.
use Rattle.std.proofs.Common.{◌≡◌, List, [], ◌∷◌, Bool, true, false, ◌||◌, Option, Some, None, is_some, Err, map, codes, refl, sym, subst, ap, ◌∙◌, inl, inr}
use Rattle.std.specs.Prelude.{fold}
use Rattle.std.specs.List.{list_any}
use Rattle.std.specs.Option.{option_and_then}
use Rattle.clap.specs.Walk.{Text, Walk, idle, has_row, first_of, walked, settled, finished, rows_of}
use Rattle.clap.specs.Values.{kind_of}
use Rattle.clap.specs.declared.error.Error.{Error}
use Rattle.clap.specs.declared.error.kind.ErrorKind.TheVariants as kind
use Rattle.clap.specs.declared.parser.matches.Found.{Found}
use Rattle.clap.proofs.WalkLemmas.{first_value-rows}
use Rattle.clap.specs.Simple.{matches_of, entered, built}
use Rattle.clap.specs.Kinds.{Kinds, or_else, IsAmong, HasKind}
use Rattle.clap.specs.Faults.{walk_fault, settle_fault, defaults_fault, check_fault, fault_of, entered_fault}
use Rattle.std.proofs.lemmas.Slice.Eq.{bytes_eq-Decides}
use Rattle.av_session.specs.declared.options.Chosen.{Chosen}
use Rattle.av_session.specs.Command.{Texts, permspec, is_dashes, chosen_by, texts_found}
use Rattle.av_session.specs.declared.options.WordsError.{WordsError}
use Rattle.av_session.specs.declared.options.WordsError.TheVariants as error
use Rattle.av_session.specs.Options.{name_and_value, choose, is_check, choose_check, choose_all, nothing_chosen, set_by, options, GivesOptions}
use Rattle.av_session.proofs.FirstOptions.{one_word_first, check_first, two_words_first, name_alone_first}
use Rattle.av_session.proofs.OptionWords.{Which, simple, size, demo, name, before, after, IsNamed, named, strange_chooses, IsCut, cut_of}
use Rattle.av_session.proofs.OptionRows.{text, Holds}
use Rattle.av_session.proofs.OptionSteps.{shape, rules, at, IsFault}
use Rattle.av_session.proofs.OptionTurns.{texts_in, reading, said, fault_reads}
use Rattle.av_session.proofs.OptionReadings.{HasNoDashes, none_then, no_number, no_choice, all_read}

-- there is no subcommand
no_subcommand : (stop : Option (Text × List Text)) → (entered (built permspec) stop ≡ None) × (entered_fault (built permspec) stop ≡ [])
no_subcommand None = (refl, refl)
no_subcommand (Some p) = (refl, refl)

-- no option was given
abbrev no_texts : Texts
no_texts = record { max_simple = None; max_size = None; demo = None; check = false }

-- what clap finds sets what the words choose
pub options_found : (words : List Text) → HasNoDashes words → reading (fault_of permspec words) (matches_of permspec words) ≡ choose_all words nothing_chosen
unfolding said
options_found words d =
    ap (λ k. reading k (matches_of permspec words)) (ap (λ o. faults (is_some o) (entered_fault (built permspec) stop)) (no_subcommand stop).0 ∙ ap (faults false) (no_subcommand stop).1)
    ∙ all_read words d [] None no_texts refl none_held
  where
    end : Walk
    end = fold (walked rules []) (at [] None idle) words

    stop : Option (Text × List Text)
    stop = end.stopped

    faults : Bool → Kinds → Kinds
    faults b below = or_else (walk_fault shape [] (at [] None idle) words) (or_else below (or_else (settle_fault rules false end.held) (or_else (defaults_fault (settled rules end.held).rows rules) (check_fault shape (finished rules end.held) b))))

    none_held_by : (k : Which) → (first_of (name k) [] ≡ text k no_texts) × (has_row (name k) [] ≡ is_some (text k no_texts))
    none_held_by simple = (refl, refl)
    none_held_by size = (refl, refl)
    none_held_by demo = (refl, refl)

    none_held : Holds [] no_texts
    none_held = (none_held_by, refl, refl)

-- so words that clap takes set what its values say
pub taken : (words : List Text) (found : Found) → HasNoDashes words → fault_of permspec words ≡ [] → rows_of found ≡ matches_of permspec words → options words ≡ option_and_then set_by (chosen_by (texts_found found))
unfolding options
taken words found d e f = ap (option_and_then set_by) (sym (options_found words d) ∙ ap (λ k. reading k (matches_of permspec words)) e ∙ ap (λ rs. chosen_by (texts_in rs)) (sym f) ∙ ap chosen_by same_texts)
  where
    same_texts : texts_in (rows_of found) ≡ texts_found found
    same_texts = rw (first_value-rows found (codes "max-simple"), first_value-rows found (codes "max-size"), first_value-rows found (codes "demo"), first_value-rows found (codes "check")) refl

-- and words that it refuses set nothing
pub refused : (words : List Text) (cause : WordsError) (e : Error) → HasNoDashes words → (cause ≡ error.Words → kind_of e ≡ kind.OutOfMemory → ⊥) → HasKind (fault_of permspec words) e → GivesOptions (Err cause) (options words)
unfolding options
refused words error.Memory e d f h = tt
refused words error.Words e d f (inl h) = absurd (f refl h)
refused words error.Words e d f (inr h) = ap (option_and_then set_by) (sym (options_found words d) ∙ fault_reads (fault_of permspec words) (matches_of permspec words) (among (fault_of permspec words) h))
  where
    among : (k : Kinds) → IsAmong (kind_of e) k → IsFault k
    among [] h = h
    among (x ∷ xs) h = tt

-- words among which `--` is choose nothing
dashes_value : (word : Text) (c : Chosen) → choose c word (codes "--") ≡ None
dashes_value word c = by (named word)
  where
    by : IsNamed word → choose c word (codes "--") ≡ None
    by (inl n) = ap (λ w. choose c w (codes "--")) n.1 ∙ no_number n.0 (codes "-") c
    by (inr (inl n)) = ap (λ w. choose c w (codes "--")) n ∙ no_choice (codes "--") c
    by (inr (inr s)) = strange_chooses word (codes "--") c s

abbrev IsNothing : List Text → Type 0
IsNothing words = (c : Chosen) → choose_all words c ≡ None

dashes_first : (words : List Text) → IsNothing (codes "--" ∷ words)
unfolding name_and_value
dashes_first [] c = sym (name_alone_first (codes "--") c refl refl)
dashes_first (next ∷ rest) c = sym (two_words_first (codes "--") next rest c refl refl) ∙ ap (option_and_then (choose_all rest)) (strange_chooses (codes "--") next c (refl, refl, refl, refl))

after_none : (words : List Text) (o : Option Chosen) → IsNothing words → option_and_then (choose_all words) o ≡ None
after_none words o h = none_then (choose_all words) o h

dashes_later : (word next : Text) (rest : List Text) → IsNothing (next ∷ rest) → (is_dashes next ≡ false → IsNothing rest) → IsNothing (word ∷ next ∷ rest)
dashes_later word next rest h g c = by (cut_of word) (is_check word) (is_dashes next) refl refl
  where
    by : IsCut word → (a b : Bool) → is_check word ≡ a → is_dashes next ≡ b → choose_all (word ∷ next ∷ rest) c ≡ None
    by (inr k) a b f e = sym (one_word_first word (before word) (after word) (next ∷ rest) c k.0) ∙ after_none (next ∷ rest) (choose c (before word) (after word)) h
    by (inl k) true b f e =
        subst (λ w. choose_all (w ∷ next ∷ rest) c ≡ None) (sym ((bytes_eq-Decides word (codes "--check")).0 f)) (sym (check_first (next ∷ rest) c) ∙ after_none (next ∷ rest) (choose_check c) h)
    by (inl k) false true f e =
        let d : next ≡ codes "--" = (bytes_eq-Decides next (codes "--")).0 e in
        sym (two_words_first word next rest c k.0 f) ∙ ap (option_and_then (choose_all rest)) (ap (choose c word) d ∙ dashes_value word c)
    by (inl k) false false f e = sym (two_words_first word next rest c k.0 f) ∙ after_none rest (choose c word next) (g e)

dashes_nothing : (words : List Text) → list_any is_dashes words ≡ true → IsNothing words
dashes_nothing [] e = absurd (let f : false ≡ true = e in cc)
dashes_nothing (word ∷ []) e = by (is_dashes word) refl
  where
    by : (b : Bool) → is_dashes word ≡ b → IsNothing (word ∷ [])
    by true f = subst (λ w. IsNothing (w ∷ [])) (sym ((bytes_eq-Decides word (codes "--")).0 f)) (dashes_first [])
    by false f = absurd (let g : false ≡ true = rw f at e in cc)
dashes_nothing (word ∷ next ∷ rest) e = by (is_dashes word) refl (dashes_nothing (next ∷ rest)) (dashes_nothing rest)
  where
    by : (b : Bool) → is_dashes word ≡ b → (list_any is_dashes (next ∷ rest) ≡ true → IsNothing (next ∷ rest)) → (list_any is_dashes rest ≡ true → IsNothing rest) → IsNothing (word ∷ next ∷ rest)
    by true f h g = subst (λ w. IsNothing (w ∷ next ∷ rest)) (sym ((bytes_eq-Decides word (codes "--")).0 f)) (dashes_first (next ∷ rest))
    by false f h g =
        let d : list_any is_dashes (next ∷ rest) ≡ true = rw f at e in
        dashes_later word next rest (h d) (λ k. g (rw k at d))

-- the test of strings is that of their bytes
pub bytes_any : {X : Type 0} (f : X → Text) (words : List X) → list_any (λ w. is_dashes (f w)) words ≡ list_any is_dashes (map f words)
bytes_any f [] = refl
bytes_any f (w ∷ words) = ap (λ b. is_dashes (f w) || b) (bytes_any f words)

pub dashes_refused : (words : List Text) → list_any is_dashes words ≡ true → options words ≡ None
unfolding options
dashes_refused words e = ap (option_and_then set_by) (dashes_nothing words e nothing_chosen)
