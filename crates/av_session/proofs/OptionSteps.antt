-- What clap makes of the words, one after another.
use Rattle.std.proofs.Common.{◌≡◌, ◌⊎◌, ℕ, List, [], ◌∷◌, ◌++◌, Bool, true, false, ◌&&◌, ◌==◌, if◌then◌else◌, Option, Some, None, codes, refl, sym, subst, ◌∙◌, inl, inr}
use Rattle.std.specs.Prelude.{slice_get}
use Rattle.std.specs.Str.{bytes_eq, chars}
use Rattle.std.proofs.lemmas.Slice.Eq.{bytes_eq-Decides}
use Rattle.clap.specs.Lexer.{name_and_value}
use Rattle.clap.specs.Walk.{bundle_met, takes_values, Text, Rule, Row, Held, Walk, Waiting, idle, option, has_row, used, walked, settled_rows, arg_by_long}
use Rattle.clap.specs.Simple.{built, Shape}
use Rattle.clap.specs.Kinds.{Kinds, or_else}
use Rattle.clap.specs.Faults.{flags_fault, turn_fault, settle_fault, long_fault}
use Rattle.clap.specs.declared.error.kind.ErrorKind.TheVariants as kind
use Rattle.clap.proofs.OnLiterals.{clap_on_literals}
use Rattle.av_perm.specs.Lists.{same}
use Rattle.av_session.specs.Command.{permspec}
use Rattle.av_session.proofs.OptionWords.{Which, simple, size, demo, name, dashed, before, before_long, IsStrange, Begins, begins, empty, plain, hyphen, short, hyphens, long}
use Rattle.av_session.proofs.OptionRows.{rule, check_rule}

-- the command as clap builds it
abbrev pub shape : Shape
shape = (built permspec).top

abbrev pub rules : List Rule
rules = shape.rules

-- what is held, and where the walk stands: with an option that has its value and isn't used yet, or none, or with one that
-- waits for its value
abbrev pub Pending : Type 0
Pending = Option (Text × List Text)

abbrev pub holding : List Row → Pending → Held
holding rows p = record { rows = rows; pending = p; skip = 0 }

abbrev pub at : List Row → Pending → Waiting → Walk
at rows p waiting = record { held = holding rows p; waiting = waiting; position = 1; is_trailing = false; stopped = None }

-- some kind of fault
abbrev pub IsFault : Kinds → Type 0
IsFault [] = ⊥
IsFault (k ∷ ks) = Unit {0}

-- the option that waits is used first
abbrev pub settles : List Row → Pending → Kinds
settles rows p = settle_fault rules false (holding rows p)

-- an option with its value in the same word
pub step_joined : (k : Which) (rows : List Row) (p : Pending) (v : Text) → walked rules [] (at rows p idle) (dashed k ++ 61 ∷ v) ≡ at (used (rule k) (v ∷ []) (settled_rows rules p rows)) None idle
unfolding clap_on_literals
step_joined simple rows p v = refl
step_joined size rows p v = refl
step_joined demo rows p v = refl

-- its fault is that of the option before, or that it was used before
abbrev pub repeated : Bool → Kinds
repeated again = if again && true then kind.ArgumentConflict ∷ [] else []

pub fault_joined : (k : Which) (rows : List Row) (p : Pending) (v : Text)
    → turn_fault shape [] (at rows p idle) (dashed k ++ 61 ∷ v) ≡ or_else (or_else (settles rows p) (or_else (repeated (has_row (name k) (settled_rows rules p rows))) [])) []
unfolding clap_on_literals
fault_joined simple rows p v = refl
fault_joined size rows p v = refl
fault_joined demo rows p v = refl

-- an option without its value
pub step_apart : (k : Which) (rows : List Row) (p : Pending) → walked rules [] (at rows p idle) (dashed k) ≡ at (settled_rows rules p rows) (Some (name k, [])) (option (name k))
unfolding clap_on_literals
step_apart simple rows p = refl
step_apart size rows p = refl
step_apart demo rows p = refl

pub fault_apart : (k : Which) (rows : List Row) (p : Pending) → turn_fault shape [] (at rows p idle) (dashed k) ≡ or_else (settles rows p) []
unfolding clap_on_literals
fault_apart simple rows p = refl
fault_apart size rows p = refl
fault_apart demo rows p = refl

-- the option that takes no value is used at once
pub step_check : (rows : List Row) (p : Pending) → walked rules [] (at rows p idle) (codes "--check") ≡ at (used check_rule [] (settled_rows rules p rows)) None idle
unfolding clap_on_literals
step_check rows p = refl

pub fault_check : (rows : List Row) (p : Pending)
    → turn_fault shape [] (at rows p idle) (codes "--check") ≡ or_else (or_else (settles rows p) (or_else (repeated (has_row (codes "check") (settled_rows rules p rows))) [])) []
unfolding clap_on_literals
fault_check rows p = refl

-- with a value it is refused
pub value_refused : (rows : List Row) (p : Pending) (v : Text) → IsFault (turn_fault shape [] (at rows p idle) (codes "--check" ++ 61 ∷ v))
unfolding clap_on_literals
value_refused rows p v = tt

-- a long name that no option has is unknown
same_turned : (s t : Text) → same s t ≡ false → bytes_eq t s ≡ false
same_turned s t e = by (bytes_eq t s) refl
  where
    by : (b : Bool) → bytes_eq t s ≡ b → b ≡ false
    by false f = refl
    by true f = let g : same s t ≡ true = (bytes_eq-Decides s t).1 (sym ((bytes_eq-Decides t s).0 f)) in absurd (let h : true ≡ false = sym g ∙ e in cc)

unknown : (n : Text) → bytes_eq (codes "max-simple") n ≡ false → bytes_eq (codes "max-size") n ≡ false → bytes_eq (codes "demo") n ≡ false → bytes_eq (codes "check") n ≡ false → arg_by_long rules n ≡ None
unfolding clap_on_literals
unknown n e f g h = rw (e, f, g, h) refl

unknown_long : (x : ℕ) (xs : Text) → IsStrange (before (45 ∷ 45 ∷ x ∷ xs)) → arg_by_long rules (before (x ∷ xs)) ≡ None
unknown_long x xs s = by (subst IsStrange (before_long x xs) s)
  where
    by : IsStrange (45 ∷ 45 ∷ before (x ∷ xs)) → arg_by_long rules (before (x ∷ xs)) ≡ None
    by t =
        unknown (before (x ∷ xs)) (same_turned (before (x ∷ xs)) (codes "max-simple") t.0) (same_turned (before (x ∷ xs)) (codes "max-size") t.1) (same_turned (before (x ∷ xs)) (codes "demo") t.2)
        (same_turned (before (x ∷ xs)) (codes "check") t.3)

-- of a fault and what comes after it, there is a fault
pub first_fault : (k l : Kinds) → IsFault k → IsFault (or_else k l)
first_fault [] l f = absurd f
first_fault (k ∷ ks) l f = tt

-- a word that is no option is refused where no option waits for its value
short_refused : (rows : List Row) (p : Pending) (z : ℕ) (zs : Text) → (z == 45) ≡ false → (o : Option ℕ) → slice_get (chars (z ∷ zs)) 0 ≡ o → IsFault (turn_fault shape [] (at rows p idle) (45 ∷ z ∷ zs))
unfolding flags_fault bundle_met
short_refused rows p z zs e None f = rw (e, e, f) tt
short_refused rows p z zs e (Some x) f = rw (e, e, f) tt

no_long_refused : (rows : List Row) (p : Pending) (word : Text) → Begins word → same word (codes "--") ≡ false
    → ((x : ℕ) (xs : Text) → word ≡ 45 ∷ 45 ∷ x ∷ xs → IsFault (turn_fault shape [] (at rows p idle) word)) → IsFault (turn_fault shape [] (at rows p idle) word)
no_long_refused rows p _ empty d f = tt
no_long_refused rows p _ (plain y ys e) d f = rw (e, e) tt
no_long_refused rows p _ hyphen d f = tt
no_long_refused rows p _ (short z zs e) d f = short_refused rows p z zs e (slice_get (chars (z ∷ zs)) 0) refl
no_long_refused rows p _ hyphens d f = absurd (let g : true ≡ false = d in cc)
no_long_refused rows p _ (long x xs) d f = f x xs refl

pub strange_refused : (rows : List Row) (p : Pending) (word : Text) → same word (codes "--") ≡ false → IsStrange (before word) → IsFault (turn_fault shape [] (at rows p idle) word)
strange_refused rows p word d s = no_long_refused rows p word (begins word) d (λ x xs e. by x xs e)
  where
    by : (x : ℕ) (xs : Text) → word ≡ 45 ∷ 45 ∷ x ∷ xs → IsFault (turn_fault shape [] (at rows p idle) word)
    by x xs e = subst (λ w. IsFault (turn_fault shape [] (at rows p idle) w)) (sym e) (rw (unknown_long x xs (subst (λ w. IsStrange (before w)) e s)) tt)

-- before a long name the option before it is used
long_unsettled : (a : Option Rule) (v : Option Text) (h : Held) → IsFault (settle_fault rules false h) → IsFault (long_fault rules false a v h)
long_unsettled None v h f = tt
long_unsettled (Some r) v h f = by v (takes_values r) refl
  where
    by : (v : Option Text) (b : Bool) → takes_values r ≡ b → IsFault (long_fault rules false (Some r) v h)
    by (Some v) true e = rw e (first_fault (settle_fault rules false h) _ f)
    by None true e = rw e f
    by (Some v) false e = rw e tt
    by None false e = rw e (first_fault (settle_fault rules false h) _ f)

-- so where that fails, every word is refused
pub unsettled_refused : (rows : List Row) (p : Pending) (word : Text) → IsFault (settles rows p) → same word (codes "--") ≡ false → IsFault (turn_fault shape [] (at rows p idle) word)
unsettled_refused rows p word f d = no_long_refused rows p word (begins word) d (λ x xs e. by x xs e)
  where
    by : (x : ℕ) (xs : Text) → word ≡ 45 ∷ 45 ∷ x ∷ xs → IsFault (turn_fault shape [] (at rows p idle) word)
    by x xs e = subst (λ w. IsFault (turn_fault shape [] (at rows p idle) w)) (sym e)
        (first_fault _ _ (long_unsettled (arg_by_long rules (before (x ∷ xs))) (name_and_value (x ∷ xs)).1 (holding rows p) f))

-- where an option waits for its value, each word is it, or it is refused and is no numeral
abbrev waiting : Which → List Row → Walk
waiting k rows = at rows (Some (name k, [])) (option (name k))

abbrev IsValue : Which → List Row → Text → Type 0
IsValue k rows word = (turn_fault shape [] (waiting k rows) word ≡ []) × (walked rules [] (waiting k rows) word ≡ at rows (Some (name k, word ∷ [])) idle)

abbrev pub IsTaken : Which → List Row → Text → Type 0
IsTaken k rows word = IsFault (turn_fault shape [] (waiting k rows) word) × ((ys : Text) × (word ≡ 45 ∷ ys)) ⊎ IsValue k rows word

empty_value : (k : Which) (rows : List Row) → IsValue k rows []
unfolding walked
empty_value simple rows = (refl, refl)
empty_value size rows = (refl, refl)
empty_value demo rows = (refl, refl)

plain_value : (k : Which) (rows : List Row) (y : ℕ) (ys : Text) → (y == 45) ≡ false → IsValue k rows (y ∷ ys)
unfolding walked
plain_value simple rows y ys e = (rw (e, e) refl, rw (e, e) refl)
plain_value size rows y ys e = (rw (e, e) refl, rw (e, e) refl)
plain_value demo rows y ys e = (rw (e, e) refl, rw (e, e) refl)

hyphen_value : (k : Which) (rows : List Row) → IsValue k rows (45 ∷ [])
unfolding walked
hyphen_value simple rows = (refl, refl)
hyphen_value size rows = (refl, refl)
hyphen_value demo rows = (refl, refl)

short_value : (k : Which) (rows : List Row) (z : ℕ) (zs : Text) → (z == 45) ≡ false → (o : Option ℕ) → slice_get (chars (z ∷ zs)) 0 ≡ o → IsTaken k rows (45 ∷ z ∷ zs)
unfolding walked flags_fault bundle_met
short_value k rows z zs e (Some x) f = inl (rw (e, e, f) tt, (z ∷ zs, refl))
short_value simple rows z zs e None f = inr (rw (e, e, f) refl, rw (e, e, f) refl)
short_value size rows z zs e None f = inr (rw (e, e, f) refl, rw (e, e, f) refl)
short_value demo rows z zs e None f = inr (rw (e, e, f) refl, rw (e, e, f) refl)

pub waiting_unsettled : (k : Which) (rows : List Row) → IsFault (settles rows (Some (name k, [])))
waiting_unsettled simple rows = tt
waiting_unsettled size rows = tt
waiting_unsettled demo rows = tt

pub step_value : (k : Which) (rows : List Row) (word : Text) → Begins word → same word (codes "--") ≡ false → IsTaken k rows word
step_value k rows _ empty d = inr (empty_value k rows)
step_value k rows _ (plain y ys e) d = inr (plain_value k rows y ys e)
step_value k rows _ hyphen d = inr (hyphen_value k rows)
step_value k rows _ (short z zs e) d = short_value k rows z zs e (slice_get (chars (z ∷ zs)) 0) refl
step_value k rows _ hyphens d = absurd (let f : true ≡ false = d in cc)
step_value k rows _ (long x xs) d =
    inl (first_fault _ _ (long_unsettled (arg_by_long rules (before (x ∷ xs))) (name_and_value (x ∷ xs)).1 (holding rows (Some (name k, []))) (waiting_unsettled k rows)), (45 ∷ x ∷ xs, refl))
