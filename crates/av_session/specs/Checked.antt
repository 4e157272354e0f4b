-- The text due to a claim, and its status.
use Rattle.std.specs.Prelude.{◌≡◌, ℕ, List, codes, decimal, Option, Some, None, Result, Ok, Err}
use Rattle.std.specs.Option.{option_map}
use Rattle.av_perm.specs.Class.{minimal, top}
use Rattle.av_perm.specs.Relations.{AreWords}
use Rattle.av_perm.specs.Gap.{simples_below}
use Rattle.av_simple.specs.Searched.{gap_of}
use Rattle.av_text.specs.Read.{Fault}
use Rattle.av_print.specs.Text.{◌⊹◌, root_text}
use Rattle.av_print.specs.Systems.{number_text}
use Rattle.av_check.specs.declared.claim.Claim.{Claim}
use Rattle.av_check.specs.declared.verdict.Flaw.{Flaw}
use Rattle.av_check.specs.declared.verdict.Flaw.TheVariants.{Lost, Twice, Extra, Large}
use Rattle.av_check.specs.declared.verdict.Verdict.{Verdict}
use Rattle.av_check.specs.declared.verdict.Verdict.TheVariants as verdicts
use Rattle.av_check.specs.Checks.{AreShort, IsTaken}
use Rattle.av_check.specs.Verdicts.{required_of, verdict}
use Rattle.av_session.specs.declared.options.Options.{Options}
use Rattle.av_session.specs.declared.subject.Subject.{Subject}
use Rattle.av_session.specs.declared.status.Status.{Status}
use Rattle.av_session.specs.declared.status.Status.TheVariants as status
use Rattle.av_session.specs.Solved.{subject_of}
use Rattle.av_session.specs.Due.{settled_header, unsettled_text, fault_text}
use Rattle.av_session.specs.Status.{FitsFault}

-- a claim whose system is well formed, and whose words have at most MAX_PATTERN_LENGTH entries
pub record IsTakenClaim (claim : Claim) : Type 0 where
  pub system : IsTaken claim.system
  pub basis : AreShort claim.basis
  pub required : AreShort (required_of claim)
  pub words : AreWords claim.basis

-- what is wrong with the terms in a cell
abbrev pub flaw_text : Flaw → List ℕ
flaw_text Lost = codes "lost"
flaw_text Twice = codes "twice"
flaw_text Extra = codes "extra"
flaw_text Large = codes "large"

-- a verdict: `yes`, or `no` with the equation and what is wrong with it
unfoldable pub verdict_text : Verdict → List ℕ
verdict_text verdicts.Yes = codes "yes"
verdict_text (verdicts.Name u) = codes "no " ⊹ number_text u ⊹ codes " name"
verdict_text (verdicts.Point u) = codes "no " ⊹ number_text u ⊹ codes " point"
verdict_text (verdicts.Root u root) = codes "no " ⊹ number_text u ⊹ codes " " ⊹ root_text root ⊹ codes " root"
verdict_text (verdicts.Cell u root k flaw) = codes "no " ⊹ number_text u ⊹ codes " " ⊹ root_text root ⊹ codes " cell " ⊹ decimal k ⊹ codes " " ⊹ flaw_text flaw

-- what a claim is about, where lengths up to the limit are searched: the minimal words of its basis, and the maximal of its
-- required words
abbrev pub claim_subject : ℕ → Claim → Subject
claim_subject limit claim = subject_of None (minimal claim.basis) (option_map top claim.require) limit

-- the text of a verdict on what has gap g: the header and the line of the verdict
unfoldable pub checked_text : Subject → ℕ → Verdict → List ℕ
checked_text subject g v = settled_header subject g ⊹ codes "check " ⊹ verdict_text v ⊹ codes "\n"

-- the text of a claim, by the gap of its basis within the limit of lengths, or by that there is none. The roots are all simple
-- words below the gap that avoid the basis
abbrev pub claim_text_by : Claim → Subject → Option ℕ → List ℕ
claim_text_by claim subject None = unsettled_text subject
claim_text_by claim subject (Some g) = checked_text subject g (verdict claim (simples_below claim.basis g))

unfoldable pub claim_text : Options → Claim → List ℕ
claim_text options claim =
    let subject : Subject = claim_subject options.max_simple claim in claim_text_by claim subject (gap_of subject.found)

-- the status that says which of the two it is
abbrev pub claim_status_by : Option ℕ → Status
claim_status_by None = status.Unsettled
claim_status_by (Some g) = status.Done

abbrev pub claim_status : Options → Claim → Status
claim_status options claim = claim_status_by (gap_of (claim_subject options.max_simple claim).found)

-- the text of what the source says as a claim
abbrev pub told_text : Options → Result Claim Fault → List ℕ
told_text options (Ok claim) = claim_text options claim
told_text options (Err fault) = fault_text fault

-- the status may come where the source has this claim: Done and Unsettled exactly by whether the basis has a gap, and never
-- TooLarge or Refused
abbrev pub FitsClaim : Status → Options → Claim → Type 0
FitsClaim status.Done options claim = claim_status options claim ≡ status.Done
FitsClaim status.Unsettled options claim = claim_status options claim ≡ status.Unsettled
FitsClaim status.TooLarge options claim = ⊥
FitsClaim status.Refused options claim = ⊥
FitsClaim _ options claim = Unit {0}

-- where the source has this claim, or no claim: Refused exactly for none
abbrev pub FitsTold : Status → Options → Result Claim Fault → Type 0
FitsTold s options (Ok claim) = FitsClaim s options claim
FitsTold s options (Err fault) = FitsFault s
