-- The bytes that were taken say what all the bytes of the source say.
use Rattle.std.proofs.Common.{◌≡◌, ℕ, ◌<◌, ◌≤◌, inl, inr, Bool, true, false, if◌then◌else◌, List, [], ◌++◌, length, Option, Some, None, IfSome, Result, Ok, Err, append-nil, length-append, refl, sym, ap, ◌∙◌, subst, arith}
use Rattle.std.proofs.lemmas.Bool.{cases_lt}
use Rattle.std.specs.Io.KnownBytes.{IsAtEnd}
use Rattle.av_text.specs.declared.limits.TheConstants.{MAX_SCRIPT_BYTES}
use Rattle.av_text.specs.declared.script.Script.{Script}
use Rattle.av_text.specs.declared.kind.Kind.TheVariants.{TooLong}
use Rattle.av_text.specs.Read.{read, Fault}
use Rattle.av_text.proofs.Reading.{read_long}
use Rattle.av_session.specs.declared.reading.TheConstants.{MOST_READ, MOST_CLAIMED}
use Rattle.av_session.specs.declared.options.Options.{Options}
use Rattle.av_session.specs.declared.status.Status.{Status}
use Rattle.av_session.specs.declared.status.Status.TheVariants as status
use Rattle.av_session.specs.Taken.{TakesAll, TakesUpTo}
use Rattle.av_session.specs.Solved.{solved_script, status_of}
use Rattle.av_session.specs.Due.{text_due, text_of}
use Rattle.av_session.specs.Status.{HoldsText, FitsText, FitsRead, FitsScript}
use Rattle.av_session.specs.Options.{options}
use Rattle.av_session.proofs.TakenBytes.{of_known, of_all, two_left}
use Rattle.av_session.specs.Runs.{demo_asked, script_by, script_bytes, most_by, most_read, due, FitsRun, FitsRun_of, ReadsWhole, IsComplete}

read_same : (all taken left : List ℕ) → all ≡ taken ++ left → length taken ≤ MOST_READ → (length taken < MOST_READ → left ≡ []) → read taken ≡ read all
read_same all taken left e most end = elim (cases_lt (length taken) MOST_READ) [
  | inl lt ↦ ap read (sym (append-nil taken) ∙ ap (λ t. taken ++ t) (sym (end lt)) ∙ sym e)
  | inr ge ↦ read_long taken (omega arith) ∙ sym (read_long all (omega (arith, ap length e, length-append taken left)))
]

-- a script is read to the end of its source
script_end : (taken : List ℕ) (new : Option (List ℕ)) (script : Script) → read taken ≡ Ok script → (length taken < MOST_READ → IsAtEnd new) → IsAtEnd new
script_end taken new script e end = elim (cases_lt MAX_SCRIPT_BYTES (length taken)) [
  | inl long ↦ absurd (let f : Err (record { line = 0; kind = TooLong }) ≡ Ok script = sym (read_long taken long) ∙ e in cc)
  | inr short ↦ end (omega arith)
]

-- so a script that was read is one of all the bytes, where the options ask for one of the source
module _ (o : Options) (none : o.demo ≡ None) (old new : Option (List ℕ)) (taken : List ℕ) (most : ℕ) (is_most : most ≡ most_by (Some o)) (all_taken : TakesAll most old new taken) (s : Status) where
  script_whole : (Q : Result Script Fault → Type 0) → (o.check ≡ false → Q (read taken)) → IfSome (script_by (Some o) old) (λ bytes. Q (read bytes))
  script_whole Q h = rw none (by o.check (subst (λ m. TakesAll m old new taken) is_most all_taken) h)
    where
      by : (b : Bool) → TakesAll (if b then MOST_CLAIMED else MOST_READ) old new taken → (b ≡ false → Q (read taken)) → IfSome (if b then None else old) (λ bytes. Q (read bytes))
      by true u q = tt
      by false u q = of_all (λ bytes. Q (read bytes)) MOST_READ old new taken u (λ all left e most end. subst Q (read_same all taken left e most end) (q refl))

  pub text_whole : (held held' : Option (List ℕ)) → (o.check ≡ false → HoldsText s held held' (text_due o taken)) → IfSome (script_by (Some o) old) (λ bytes. HoldsText s held held' (text_due o bytes))
  unfolding text_due
  text_whole held held' h = script_whole (λ r. HoldsText s held held' (text_of o r)) h

  pub fits_whole : (o.check ≡ false → FitsText s o taken) → IfSome (script_by (Some o) old) (λ bytes. FitsText s o bytes)
  fits_whole h = script_whole (FitsRead s o) h

-- and the source was read to its end where its script was answered
pub done_end : (o : Options) (taken : List ℕ) (new : Option (List ℕ)) → FitsText status.Done o taken → (length taken < MOST_READ → IsAtEnd new) → IsAtEnd new
done_end o taken new f end = by (read taken) refl f
  where
    by : (r : Result Script Fault) → read taken ≡ r → FitsRead status.Done o r → IsAtEnd new
    by (Ok script) e f = script_end taken new script e end
    by (Err fault) e f = absurd f

-- the words of the command line ask for the demo script of the options that they set
asked : (words : List (List ℕ)) (o : Options) → Some o ≡ options words → o.demo ≡ demo_asked words
unfolding demo_asked
asked words o e = rw (← e) refl

pub asked_none : (words : List (List ℕ)) (o : Options) → Some o ≡ options words → demo_asked words ≡ None → o.demo ≡ None
asked_none words o e f = asked words o e ∙ f

pub asked_some : (words : List (List ℕ)) (o : Options) (A : Type 0) → Some o ≡ options words → IfSome o.demo (λ _. A) → IfSome (demo_asked words) (λ _. A)
asked_some words o A e h = subst (λ d. IfSome d (λ _. A)) (asked words o e) h

-- the same with the words of the command line, which set these options
pub due_text : (words : List (List ℕ)) (o : Options) (s : Status) (left held held' : Option (List ℕ)) → Some o ≡ options words
    → IfSome (script_by (Some o) left) (λ bytes. HoldsText s held held' (text_due o bytes)) → IfSome (script_bytes words left) (λ bytes. HoldsText s held held' (due words bytes))
unfolding due script_bytes
due_text words o s left held held' e h = rw (← e) h

pub due_fits : (words : List (List ℕ)) (o : Options) (s : Status) (left : Option (List ℕ)) → Some o ≡ options words
    → IfSome (script_by (Some o) left) (λ bytes. FitsText s o bytes) → IfSome (script_bytes words left) (λ bytes. FitsRun s words bytes)
unfolding FitsRun script_bytes
due_fits words o s left e h = rw (← e) h

-- and the number of bytes that are read at most
pub most_taken : (words : List (List ℕ)) (o : Options) (old new : Option (List ℕ)) → Some o ≡ options words → TakesUpTo (most_by (Some o)) old new → TakesUpTo (most_read words) old new
unfolding most_read
most_taken words o old new e h = rw (← e) h

pub most_whole : (words : List (List ℕ)) (o : Options) (s : Status) (old new : Option (List ℕ)) → Some o ≡ options words → ReadsWhole (most_by (Some o)) s old new → ReadsWhole (most_read words) s old new
unfolding most_read
most_whole words o s old new e h = rw (← e) h

-- words that aren't accepted ask for nothing of the text
pub no_options_fits : (words : List (List ℕ)) (s : Status) (old : Option (List ℕ)) → None ≡ options words → IfSome old (λ bytes. FitsRun s words bytes)
unfolding FitsRun
no_options_fits words s old e = of_known _ old (λ bytes. rw (← e) tt)

-- want of memory fits with any words
pub memory_fits_all : (words : List (List ℕ)) (old : Option (List ℕ)) → IfSome old (λ bytes. FitsRun status.Memory words bytes)
unfolding FitsRun
memory_fits_all words old = of_known _ old (λ bytes. by bytes (options words))
  where
    free : (o : Options) (r : Result Script Fault) → FitsRead status.Memory o r
    free o (Ok script) = tt
    free o (Err fault) = tt

    by : (bytes : List ℕ) (o : Option Options) → FitsRun_of status.Memory o bytes
    by bytes None = tt
    by bytes (Some o) = free o (read bytes)

-- no status but Done and Memory is left
pub complete_by : (s : Status) (left : Option (List ℕ)) (words : List (List ℕ)) (R W : Type 0) → (s ≡ status.Words → options words ≡ None) → (s ≡ status.ReadFault → R) → (s ≡ status.WriteFault → W)
    → IfSome left (λ bytes. FitsRun s words bytes) → IsComplete s left words R W
unfolding FitsRun
complete_by s left words R W no_words read_rose write_rose fits bytes o script class l a r settled no_read no_write =
    two_left (λ t. FitsScript t o script) s here (λ e. let f : Some o ≡ None = sym a ∙ no_words e in cc) (λ e. no_read (read_rose e)) (λ e. no_write (write_rose e))
    (λ f. f) (λ f. let e : status.Unsettled ≡ status.Done = sym f ∙ done in cc) (λ f. let e : status.TooLarge ≡ status.Done = sym f ∙ done in cc)
  where
    done : status_of (solved_script o script) ≡ status.Done
    done = rw settled refl

    here : FitsScript s o script
    here = rw r at (rw a at (subst (λ known. IfSome known (λ b. FitsRun_of s (options words) b)) l fits))
