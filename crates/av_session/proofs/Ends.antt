-- The status of a script, and of a claim, that was answered.
use Rattle.std.proofs.Common.{◌≡◌, ℕ, Option, Some, None, sym, subst}
use Rattle.av_simple.specs.Searched.{gap_of}
use Rattle.av_text.specs.declared.script.Script.{Script}
use Rattle.av_session.specs.declared.options.Options.{Options}
use Rattle.av_session.specs.declared.solving.Solved.{Solved}
use Rattle.av_session.specs.declared.solving.Solved.TheVariants.{Unsettled, TooLarge, Settled}
use Rattle.av_session.specs.declared.status.Status.{Status}
use Rattle.av_session.specs.declared.status.Status.TheVariants as status
use Rattle.av_session.specs.Solved.{solved_script, status_of}
use Rattle.av_session.specs.Status.{FitsScript, ComesAfterReading}
use Rattle.av_check.specs.declared.claim.Claim.{Claim}
use Rattle.av_session.specs.Checked.{claim_subject, claim_status_by, claim_status, FitsClaim}

-- the status of a script fits it
pub fits_by : (s : Status) (o : Options) (script : Script) → s ≡ status_of (solved_script o script) → FitsScript s o script
fits_by s o script e = by s e
  where
    by : (s : Status) → s ≡ status_of (solved_script o script) → FitsScript s o script
    by status.Done f = sym f
    by status.Memory f = tt
    by status.Words f = tt
    by status.ReadFault f = tt
    by status.WriteFault f = tt
    by status.Refused f = none (solved_script o script) f
      where
        none : (c : Solved) → status.Refused ≡ status_of c → ⊥
        none (Unsettled found) g = cc
        none (TooLarge found gap) g = cc
        none (Settled class) g = cc
    by status.Unsettled f = sym f
    by status.TooLarge f = sym f

-- it is none that comes before the text is read
comes_after : (c : Solved) → ComesAfterReading (status_of c)
comes_after (Unsettled found) = tt
comes_after (TooLarge found gap) = tt
comes_after (Settled class) = tt

pub answer_by : (s : Status) (c : Solved) → s ≡ status_of c → ComesAfterReading s
answer_by s c e = subst ComesAfterReading (sym e) (comes_after c)

-- and no fault
no_fault : (c : Solved) → status_of c ≡ status.WriteFault → ⊥
no_fault (Unsettled found) f = cc
no_fault (TooLarge found gap) f = cc
no_fault (Settled class) f = cc

pub no_fault_by : (s : Status) (c : Solved) → s ≡ status_of c → s ≡ status.WriteFault → ⊥
no_fault_by s c e f = no_fault c (subst (λ t. t ≡ status.WriteFault) e f)

pub ruleset ends = (fits_by, answer_by, no_fault_by)

-- the same of a claim, by its gap
pub claim_fits_by : (s : Status) (o : Options) (claim : Claim) → s ≡ claim_status o claim → FitsClaim s o claim
claim_fits_by s o claim e = by s e
  where
    none : (s : Status) (g : Option ℕ) → s ≡ claim_status_by g → (s ≡ status.Done → ⊥) → (s ≡ status.Unsettled → ⊥) → ⊥
    none s None f a b = b f
    none s (Some g) f a b = a f

    by : (s : Status) → s ≡ claim_status o claim → FitsClaim s o claim
    by status.Done f = sym f
    by status.Memory f = tt
    by status.Words f = tt
    by status.ReadFault f = tt
    by status.WriteFault f = tt
    by status.Refused f = none status.Refused (gap_of (claim_subject o.max_simple claim).found) f (λ g. cc) (λ g. cc)
    by status.Unsettled f = sym f
    by status.TooLarge f = none status.TooLarge (gap_of (claim_subject o.max_simple claim).found) f (λ g. cc) (λ g. cc)

claim_comes_after : (g : Option ℕ) → ComesAfterReading (claim_status_by g)
claim_comes_after None = tt
claim_comes_after (Some g) = tt

pub claim_answer_by : (s : Status) (g : Option ℕ) → s ≡ claim_status_by g → ComesAfterReading s
claim_answer_by s g e = subst ComesAfterReading (sym e) (claim_comes_after g)

claim_no_fault : (g : Option ℕ) → claim_status_by g ≡ status.WriteFault → ⊥
claim_no_fault None f = cc
claim_no_fault (Some g) f = cc

pub claim_no_fault_by : (s : Status) (g : Option ℕ) → s ≡ claim_status_by g → s ≡ status.WriteFault → ⊥
claim_no_fault_by s g e f = claim_no_fault g (subst (λ t. t ≡ status.WriteFault) e f)

pub ruleset claim_ends = (claim_fits_by, claim_answer_by, claim_no_fault_by)
