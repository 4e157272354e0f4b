-- What clap sets by the words that are left: where the next one is a fault or none, and where none is left.
use Rattle.std.proofs.Common.{◌≡◌, List, [], ◌∷◌, Bool, true, false, Option, None, codes, refl, ap, ◌∙◌}
use Rattle.std.specs.Prelude.{fold}
use Rattle.clap.specs.Walk.{Text, Row, Held, Walk, Waiting, idle, has_row, first_of, walked, settled, settled_rows, finished, with_default}
use Rattle.clap.specs.Kinds.{Kinds, or_else}
use Rattle.clap.specs.Faults.{turn_fault, walk_fault, settle_fault, defaults_fault, check_fault}
use Rattle.clap.proofs.OnLiterals.{clap_on_literals}
use Rattle.av_session.specs.declared.options.Chosen.{Chosen}
use Rattle.av_session.specs.Command.{Texts, is_given, chosen_by}
use Rattle.av_session.proofs.OptionWords.{simple, size, demo}
use Rattle.av_session.proofs.OptionRows.{check_rule, Holds, holds_default}
use Rattle.av_session.proofs.OptionSteps.{shape, rules, Pending, at, IsFault, settles, first_fault}

-- the texts that rows hold
abbrev pub texts_in : List Row → Texts
texts_in rows = record {
  max_simple = first_of (codes "max-simple") rows;
  max_size = first_of (codes "max-size") rows;
  demo = first_of (codes "demo") rows;
  check = is_given (first_of (codes "check") rows);
}

-- what rows set, where there is no fault
abbrev pub reading : Kinds → List Row → Option Chosen
reading [] rows = chosen_by (texts_in rows)
reading (k ∷ ks) rows = None

-- the fault of the end
abbrev pub ending : Held → Kinds
ending h = or_else (settle_fault rules false h) (or_else (defaults_fault (settled rules h).rows rules) (check_fault shape (finished rules h) false))

-- what is set by the words that are left
unfoldable pub said : Walk → List Text → Option Chosen
said w words = reading (or_else (walk_fault shape [] w words) (ending (fold (walked rules []) w words).held)) (finished rules (fold (walked rules []) w words).held)

-- a fault sets nothing
pub fault_reads : (k : Kinds) (rows : List Row) → IsFault k → reading k rows ≡ None
fault_reads [] rows f = absurd f
fault_reads (k ∷ ks) rows f = refl

pub turn_refused : (w : Walk) (word : Text) (words : List Text) → IsFault (turn_fault shape [] w word) → said w (word ∷ words) ≡ None
unfolding said walk_fault
turn_refused w word words f = fault_reads _ _ (first_fault _ _ (first_fault _ _ f))

-- without one the words after it are read
pub turn_taken : (w v : Walk) (word : Text) (words : List Text) → turn_fault shape [] w word ≡ [] → walked rules [] w word ≡ v → said w (word ∷ words) ≡ said v words
unfolding said walk_fault
turn_taken w v word words e f = ap (λ k. after_turn k (walked rules [] w word)) e ∙ ap (after_turn []) f
  where
    after_turn : Kinds → Walk → Option Chosen
    after_turn k u = reading (or_else (or_else k (walk_fault shape [] u words)) (ending (fold (walked rules []) u words).held)) (finished rules (fold (walked rules []) u words).held)

-- at the end, what waits to be used is used
pub end_unsettled : (rows : List Row) (p : Pending) (waiting : Waiting) → IsFault (settles rows p) → said (at rows p waiting) [] ≡ None
unfolding said walk_fault
end_unsettled rows p waiting f = fault_reads _ _ (first_fault _ _ f)

no_defaults : (rows : List Row) → defaults_fault rows rules ≡ []
unfolding clap_on_literals
no_defaults rows = by (has_row (codes "max-simple") rows) (has_row (codes "max-size") rows) (has_row (codes "demo") rows) (has_row (codes "check") rows) refl refl refl refl
  where
    by : (a b c d : Bool) → has_row (codes "max-simple") rows ≡ a → has_row (codes "max-size") rows ≡ b → has_row (codes "demo") rows ≡ c → has_row (codes "check") rows ≡ d → defaults_fault rows rules ≡ []
    by true true true true e f g h = rw (e, f, g, h) refl
    by true true true false e f g h = rw (e, f, g, h) refl
    by true true false true e f g h = rw (e, f, g, h) refl
    by true true false false e f g h = rw (e, f, g, h) refl
    by true false true true e f g h = rw (e, f, g, h) refl
    by true false true false e f g h = rw (e, f, g, h) refl
    by true false false true e f g h = rw (e, f, g, h) refl
    by true false false false e f g h = rw (e, f, g, h) refl
    by false true true true e f g h = rw (e, f, g, h) refl
    by false true true false e f g h = rw (e, f, g, h) refl
    by false true false true e f g h = rw (e, f, g, h) refl
    by false true false false e f g h = rw (e, f, g, h) refl
    by false false true true e f g h = rw (e, f, g, h) refl
    by false false true false e f g h = rw (e, f, g, h) refl
    by false false false true e f g h = rw (e, f, g, h) refl
    by false false false false e f g h = rw (e, f, g, h) refl

-- of the options only the one that takes no value has a default
one_added : (rows : List Row) → fold with_default rows rules ≡ with_default rows check_rule
one_added rows = by (has_row (codes "max-simple") rows) (has_row (codes "max-size") rows) (has_row (codes "demo") rows) refl refl refl
  where
    by : (a b c : Bool) → has_row (codes "max-simple") rows ≡ a → has_row (codes "max-size") rows ≡ b → has_row (codes "demo") rows ≡ c → fold with_default rows rules ≡ with_default rows check_rule
    by true true true e f g = rw (e, f, g) refl
    by true true false e f g = rw (e, f, g) refl
    by true false true e f g = rw (e, f, g) refl
    by true false false e f g = rw (e, f, g) refl
    by false true true e f g = rw (e, f, g) refl
    by false true false e f g = rw (e, f, g) refl
    by false false true e f g = rw (e, f, g) refl
    by false false false e f g = rw (e, f, g) refl

holds_texts : (rows : List Row) (t : Texts) → Holds rows t → texts_in (with_default rows check_rule) ≡ t
holds_texts rows t h = let d = holds_default rows t h in rw (d.0 simple, d.0 size, d.0 demo, d.1) refl

pub end_settled : (rows : List Row) (p : Pending) (t : Texts) → settles rows p ≡ [] → Holds (settled_rows rules p rows) t → said (at rows p idle) [] ≡ chosen_by t
unfolding said walk_fault
end_settled rows p t e h = rw (e, no_defaults (settled_rows rules p rows), one_added (settled_rows rules p rows)) (ap chosen_by (holds_texts (settled_rows rules p rows) t h))
