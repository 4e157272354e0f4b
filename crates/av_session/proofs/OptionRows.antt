-- What clap found for the options, as one after another is used.
use Rattle.std.proofs.Common.{◌≡◌, List, [], ◌∷◌, ◌++◌, Bool, true, false, ◌||◌, Option, Some, None, is_some, codes, refl, sym, subst, ap, ◌∙◌}
use Rattle.std.specs.Prelude.{find, slice_get}
use Rattle.std.specs.Option.{option_and_then}
use Rattle.std.specs.Str.{bytes_eq}
use Rattle.clap.specs.Walk.{Text, Rule, Row, at_row, has_row, first_of, used, more_values, with_default}
use Rattle.clap.specs.declared.parser.matches.ValueSource.TheVariants.{CommandLine, DefaultValue}
use Rattle.clap.specs.Simple.{filled}
use Rattle.av_session.specs.Command.{Texts, option_rule, flag_rule, is_given}
use Rattle.av_session.proofs.OptionWords.{Which, simple, size, demo, name}

-- the option as clap builds it
abbrev pub rule : Which → Rule
rule k = filled (option_rule (name k))

-- so is the one that takes no value
abbrev pub check_rule : Rule
check_rule = filled (flag_rule (codes "check"))

-- the text that an option was given, and the texts with one more
abbrev pub text : Which → Texts → Option Text
text simple t = t.max_simple
text size t = t.max_size
text demo t = t.demo

abbrev pub given : Which → Text → Texts → Texts
given simple v t = record t { max_simple = Some v }
given size v t = record t { max_size = Some v }
given demo v t = record t { demo = Some v }

-- the rows hold the texts
abbrev pub Holds : List Row → Texts → Type 0
Holds rows t =
    ((k : Which) → (first_of (name k) rows ≡ text k t) × (has_row (name k) rows ≡ is_some (text k t)))
    × (is_given (first_of (codes "check") rows) ≡ t.check) × (has_row (codes "check") rows ≡ t.check)

-- a row that isn't there comes last
absent : (id : Text) (change : Row → List Row) (missing rows : List Row) → has_row id rows ≡ false → at_row id change missing rows ≡ rows ++ missing
absent id change missing [] e = refl
absent id change missing (r ∷ rs) e = by (bytes_eq r.id id) refl (absent id change missing rs)
  where
    by : (b : Bool) → bytes_eq r.id id ≡ b → (has_row id rs ≡ false → at_row id change missing rs ≡ rs ++ missing) → at_row id change missing (r ∷ rs) ≡ (r ∷ rs) ++ missing
    by true f ih = absurd (let g : true ≡ false = rw f at e in cc)
    by false f ih = rw f (ap (λ l. r ∷ l) (ih (rw f at e)))

-- it is the one that is found
found_last : (id : Text) (rows : List Row) (r : Row) → has_row id rows ≡ false → bytes_eq r.id id ≡ true → find (λ s. bytes_eq s.id id) (rows ++ r ∷ []) ≡ Some r
found_last id [] r e h = rw h refl
found_last id (s ∷ rs) r e h = by (bytes_eq s.id id) refl (found_last id rs r)
  where
    by : (b : Bool) → bytes_eq s.id id ≡ b → (has_row id rs ≡ false → bytes_eq r.id id ≡ true → find (λ s. bytes_eq s.id id) (rs ++ r ∷ []) ≡ Some r) → find (λ s. bytes_eq s.id id) (s ∷ rs ++ r ∷ []) ≡ Some r
    by true f ih = absurd (let g : true ≡ false = rw f at e in cc)
    by false f ih = rw f (ih (rw f at e) h)

-- and no other row is found otherwise
found_other : (id : Text) (rows : List Row) (r : Row) → bytes_eq r.id id ≡ false → find (λ s. bytes_eq s.id id) (rows ++ r ∷ []) ≡ find (λ s. bytes_eq s.id id) rows
found_other id [] r h = rw h refl
found_other id (s ∷ rs) r h = rw (found_other id rs r h) refl

row_last : (id : Text) (rows : List Row) (r : Row) → bytes_eq r.id id ≡ true → has_row id (rows ++ r ∷ []) ≡ true
row_last id [] r h = rw h refl
row_last id (s ∷ rs) r h = by (bytes_eq s.id id) (row_last id rs r h)
  where
    by : (b : Bool) → has_row id (rs ++ r ∷ []) ≡ true → (b || has_row id (rs ++ r ∷ [])) ≡ true
    by true ih = refl
    by false ih = ih

row_other : (id : Text) (rows : List Row) (r : Row) → bytes_eq r.id id ≡ false → has_row id (rows ++ r ∷ []) ≡ has_row id rows
row_other id [] r h = rw h refl
row_other id (s ∷ rs) r h = rw (row_other id rs r h) refl

-- the row of an option that was given this text
abbrev row : Which → Text → List Row
row k v = used (rule k) (v ∷ []) []

append_none : {X : Type 0} (xs : List X) → xs ++ [] ≡ xs
append_none [] = refl
append_none (x ∷ xs) = ap (λ l. x ∷ l) (append_none xs)

-- an option that isn't used twice adds its row
adds : (k : Which) (v : Text) (rows : List Row) → has_row (name k) rows ≡ false → used (rule k) (v ∷ []) rows ≡ rows ++ row k v
adds simple v rows e = rw (absent (codes "max-simple") (λ _. []) [] rows e, append_none rows) (absent (codes "max-simple") (more_values CommandLine (v ∷ [])) _ rows e)
adds size v rows e = rw (absent (codes "max-size") (λ _. []) [] rows e, append_none rows) (absent (codes "max-size") (more_values CommandLine (v ∷ [])) _ rows e)
adds demo v rows e = rw (absent (codes "demo") (λ _. []) [] rows e, append_none rows) (absent (codes "demo") (more_values CommandLine (v ∷ [])) _ rows e)

-- so does the one that takes no value
adds_check : (rows : List Row) → has_row (codes "check") rows ≡ false → used check_rule [] rows ≡ rows ++ used check_rule [] []
adds_check rows e = rw (absent (codes "check") (λ _. []) [] rows e, append_none rows) (absent (codes "check") (more_values CommandLine (codes "true" ∷ [])) _ rows e)

-- the text of the first row of an id
abbrev first : Option Row → Option Text
first o = option_and_then (λ r. slice_get r.values 0) o

-- the rows then hold its text
pub holds_given : (k : Which) (v : Text) (rows : List Row) (t : Texts) → text k t ≡ None → Holds rows t → Holds (used (rule k) (v ∷ []) rows) (given k v t)
holds_given k v rows t e h = subst (λ rs. Holds rs (given k v t)) (sym (adds k v rows ((h.0 k).1 ∙ ap is_some e))) (by k ((h.0 k).1 ∙ ap is_some e), (same k).0, (same k).1)
  where
    by : (k : Which) → has_row (name k) rows ≡ false → (i : Which) → (first_of (name i) (rows ++ row k v) ≡ text i (given k v t)) × (has_row (name i) (rows ++ row k v) ≡ is_some (text i (given k v t)))
    by simple f simple = (ap first (found_last (codes "max-simple") rows _ f refl), row_last (codes "max-simple") rows _ refl)
    by simple f size = (ap first (found_other (codes "max-size") rows _ refl) ∙ (h.0 size).0, row_other (codes "max-size") rows _ refl ∙ (h.0 size).1)
    by simple f demo = (ap first (found_other (codes "demo") rows _ refl) ∙ (h.0 demo).0, row_other (codes "demo") rows _ refl ∙ (h.0 demo).1)
    by size f simple = (ap first (found_other (codes "max-simple") rows _ refl) ∙ (h.0 simple).0, row_other (codes "max-simple") rows _ refl ∙ (h.0 simple).1)
    by size f size = (ap first (found_last (codes "max-size") rows _ f refl), row_last (codes "max-size") rows _ refl)
    by size f demo = (ap first (found_other (codes "demo") rows _ refl) ∙ (h.0 demo).0, row_other (codes "demo") rows _ refl ∙ (h.0 demo).1)
    by demo f simple = (ap first (found_other (codes "max-simple") rows _ refl) ∙ (h.0 simple).0, row_other (codes "max-simple") rows _ refl ∙ (h.0 simple).1)
    by demo f size = (ap first (found_other (codes "max-size") rows _ refl) ∙ (h.0 size).0, row_other (codes "max-size") rows _ refl ∙ (h.0 size).1)
    by demo f demo = (ap first (found_last (codes "demo") rows _ f refl), row_last (codes "demo") rows _ refl)

    same : (k : Which) → (is_given (first_of (codes "check") (rows ++ row k v)) ≡ (given k v t).check) × (has_row (codes "check") (rows ++ row k v) ≡ (given k v t).check)
    same simple = (ap (λ o. is_given (first o)) (found_other (codes "check") rows _ refl) ∙ h.1, row_other (codes "check") rows _ refl ∙ h.2)
    same size = (ap (λ o. is_given (first o)) (found_other (codes "check") rows _ refl) ∙ h.1, row_other (codes "check") rows _ refl ∙ h.2)
    same demo = (ap (λ o. is_given (first o)) (found_other (codes "check") rows _ refl) ∙ h.1, row_other (codes "check") rows _ refl ∙ h.2)

-- a row of that one more, whatever its text, leaves the others
other_texts : (rows : List Row) (r : Row) → r.id ≡ codes "check" → (k : Which) → (first_of (name k) (rows ++ r ∷ []) ≡ first_of (name k) rows) × (has_row (name k) (rows ++ r ∷ []) ≡ has_row (name k) rows)
other_texts rows r e k = by k
  where
    by : (k : Which) → (first_of (name k) (rows ++ r ∷ []) ≡ first_of (name k) rows) × (has_row (name k) (rows ++ r ∷ []) ≡ has_row (name k) rows)
    by simple = (ap first (found_other (codes "max-simple") rows r (rw e refl)), row_other (codes "max-simple") rows r (rw e refl))
    by size = (ap first (found_other (codes "max-size") rows r (rw e refl)), row_other (codes "max-size") rows r (rw e refl))
    by demo = (ap first (found_other (codes "demo") rows r (rw e refl)), row_other (codes "demo") rows r (rw e refl))

-- the rows then hold that it was given
pub holds_check : (rows : List Row) (t : Texts) → t.check ≡ false → Holds rows t → Holds (used check_rule [] rows) (record t { check = true })
holds_check rows t e h = subst (λ rs. Holds rs (record t { check = true })) (sym (adds_check rows (h.2 ∙ e))) (
  λ k. ((other_texts rows _ refl k).0 ∙ by k (h.0 k).0, (other_texts rows _ refl k).1 ∙ by_row k (h.0 k).1),
  ap (λ o. is_given (first o)) (found_last (codes "check") rows _ (h.2 ∙ e) refl),
  row_last (codes "check") rows _ refl,
)
  where
    by : (k : Which) → first_of (name k) rows ≡ text k t → first_of (name k) rows ≡ text k (record t { check = true })
    by simple f = f
    by size f = f
    by demo f = f

    by_row : (k : Which) → has_row (name k) rows ≡ is_some (text k t) → has_row (name k) rows ≡ is_some (text k (record t { check = true }))
    by_row simple f = f
    by_row size f = f
    by_row demo f = f

-- where it wasn't given, a row that says so leaves the texts as they are
pub holds_default : (rows : List Row) (t : Texts) → Holds rows t → ((k : Which) → first_of (name k) (with_default rows check_rule) ≡ text k t) × (is_given (first_of (codes "check") (with_default rows check_rule)) ≡ t.check)
holds_default rows t h = by (has_row (codes "check") rows) refl
  where
    by : (b : Bool) → has_row (codes "check") rows ≡ b → ((k : Which) → first_of (name k) (with_default rows check_rule) ≡ text k t) × (is_given (first_of (codes "check") (with_default rows check_rule)) ≡ t.check)
    by true e = rw e (λ k. (h.0 k).0, h.1)
    by false e = rw (e, absent (codes "check") (more_values DefaultValue (codes "false" ∷ [])) _ rows e) (
      λ k. (other_texts rows _ refl k).0 ∙ (h.0 k).0,
      ap (λ o. is_given (first o)) (found_last (codes "check") rows _ e refl) ∙ sym e ∙ h.2,
    )
