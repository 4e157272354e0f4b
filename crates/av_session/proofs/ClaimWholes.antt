-- A claim is read to the end of its source, and what is so with the options is so with the words that set them.
use Rattle.std.proofs.Common.{◌≡◌, ℕ, ◌<◌, inl, inr, Bool, true, false, if◌then◌else◌, List, length, Option, Some, None, IfSome, Result, Ok, Err, refl, sym, ◌∙◌, subst, arith}
use Rattle.std.proofs.lemmas.Bool.{cases_lt}
use Rattle.std.specs.Io.KnownBytes.{IsAtEnd}
use Rattle.av_print.proofs.WaitingTexts.{part_none}
use Rattle.av_text.specs.Read.{Fault}
use Rattle.av_check.specs.declared.claim.Claim.{Claim}
use Rattle.av_check.specs.declared.limits.TheConstants.{MAX_CLAIM_BYTES}
use Rattle.av_session.specs.declared.reading.TheConstants.{MOST_READ, MOST_CLAIMED}
use Rattle.av_session.specs.declared.options.Options.{Options}
use Rattle.av_session.specs.declared.status.Status.{Status}
use Rattle.av_session.specs.declared.status.Status.TheVariants as status
use Rattle.av_session.specs.Taken.{TakesAll}
use Rattle.av_session.specs.Options.{options}
use Rattle.av_session.specs.Runs.{most_by, ReadsWhole}
use Rattle.av_session.specs.Status.{FitsText}
use Rattle.av_session.specs.Checked.{claim_status, FitsClaim}
use Rattle.av_session.specs.Checks.{IsTold, claimed_by, claim_bytes, HoldsCheck, FitsCheck, told_due, HoldsTold, FitsTold_of, FitsWords, IsCheckComplete}
use Rattle.av_check.proofs.TakenClaims.{claim_of_words}
use Rattle.av_session.proofs.TakenBytes.{of_known, read_by, two_left}
use Rattle.av_session.proofs.Wholes.{done_end}
use Rattle.av_session.proofs.Told.{too_long_fault, told_too_long}
use Rattle.av_session.proofs.AboutClaims.{claim_settled}

-- the source was read to its end where a claim or a script was answered: a text that is too long is none
pub whole_read : (o : Options) (old new : Option (List ℕ)) (taken : List ℕ) (most : ℕ) → most ≡ most_by (Some o) → TakesAll most old new taken → (s : Status)
    → (o.check ≡ false → FitsText s o taken) → (o.check ≡ true → FitsCheck s o taken) → ReadsWhole (most_by (Some o)) s old new
whole_read o old new taken most is_most all_taken s script claim = read_by (most_by (Some o)) s old new taken within (by o.check within.2 script claim)
  where
    within : TakesAll (most_by (Some o)) old new taken
    within = subst (λ m. TakesAll m old new taken) is_most all_taken

    by : (b : Bool) → (length taken < (if b then MOST_CLAIMED else MOST_READ) → IsAtEnd new) → (b ≡ false → FitsText s o taken) → (b ≡ true → FitsCheck s o taken) → s ≡ status.Done → IsAtEnd new
    by true end f g e = elim (cases_lt MAX_CLAIM_BYTES (length taken)) [
      | inl long ↦ absurd (subst (λ r. FitsCheck r o taken) e (g refl) (Err too_long_fault) (told_too_long taken long))
      | inr short ↦ end (omega arith)
    ]
    by false end f g e = done_end o taken new (subst (λ r. FitsText r o taken) e (f refl)) end

-- what is so with the options is so with the words of the command line that set them
pub told_text_due : (words : List (List ℕ)) (o : Options) (s : Status) (left held held' : Option (List ℕ)) → Some o ≡ options words
    → IfSome (claimed_by (Some o) left) (λ bytes. HoldsCheck s held held' o bytes) → IfSome (claim_bytes words left) (λ bytes. HoldsTold s held held' words bytes)
unfolding claim_bytes told_due
told_text_due words o s left held held' e h = rw (← e) h

pub told_fits_due : (words : List (List ℕ)) (o : Options) (s : Status) (left : Option (List ℕ)) → Some o ≡ options words
    → IfSome (claimed_by (Some o) left) (λ bytes. FitsCheck s o bytes) → IfSome (claim_bytes words left) (λ bytes. FitsWords s words bytes)
unfolding claim_bytes FitsWords
told_fits_due words o s left e h = rw (← e) h

-- words that aren't accepted ask for nothing of the text
pub no_options_told : (words : List (List ℕ)) (old : Option (List ℕ)) (P : List ℕ → Type 0) → None ≡ options words → IfSome (claim_bytes words old) P
unfolding claim_bytes
no_options_told words old P e = rw (← e) tt

-- want of memory fits with any words
pub memory_fits_told : (words : List (List ℕ)) (old : Option (List ℕ)) → IfSome old (λ bytes. FitsWords status.Memory words bytes)
unfolding FitsWords
memory_fits_told words old = of_known _ old (λ bytes told p. by (options words) told)
  where
    by : (o : Option Options) (told : Result Claim Fault) → FitsTold_of status.Memory o told
    by None told = tt
    by (Some o) (Ok claim) = tt
    by (Some o) (Err fault) = tt

pub memory_holds_told : (words : List (List ℕ)) (old held : Option (List ℕ)) → IfSome old (λ bytes. HoldsTold status.Memory held held words bytes)
memory_holds_told words old held = of_known _ old (λ bytes told p. part_none held (told_due words told))

-- no status but Done and Memory is left
pub check_complete_by : (s : Status) (left : Option (List ℕ)) (words : List (List ℕ)) (R W : Type 0) → (s ≡ status.Words → options words ≡ None) → (s ≡ status.ReadFault → R) → (s ≡ status.WriteFault → W)
    → IfSome left (λ bytes. FitsWords s words bytes) → IsCheckComplete s left words R W
unfolding FitsWords
check_complete_by s left words R W no_words read_rose write_rose fits bytes o claim g l a c is gap no_read no_write =
    two_left (λ t. FitsClaim t o claim) s here (λ e. let f : Some o ≡ None = sym a ∙ no_words e in cc) (λ e. no_read (read_rose e)) (λ e. no_write (write_rose e))
    (λ f. f) (λ f. let e : status.Unsettled ≡ status.Done = sym f ∙ done in cc) (λ f. f)
  where
    done : claim_status o claim ≡ status.Done
    done = (claim_settled o claim (claim_of_words bytes claim is).basis).1 (g, gap)

    here : FitsClaim s o claim
    here = rw a at (subst (λ known. IfSome known (λ b. (t : Result Claim Fault) → IsTold b t → FitsTold_of s (options words) t)) l fits (Ok claim) is)
