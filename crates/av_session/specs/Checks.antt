-- What a run with `--check` is about: the text due of the words and of the bytes that are read as a claim, and what its answer
-- says of the claimed system.
use Rattle.std.specs.Prelude.{◌≡◌, ℕ, suc, ◌≤◌, ◌↔◌, ◌⊎◌, if◌then◌else◌, List, [], true, Option, Some, None, Result, Ok, Err, codes}
use Rattle.av_perm.specs.Members.{IsListOf}
use Rattle.av_perm.specs.Class.{minimal, top}
use Rattle.av_perm.specs.Gap.{simples, simples_below}
use Rattle.av_perm.specs.Relations.{AreWords, InClass, InClassWith, IsSimple}
use Rattle.av_perm.specs.Laws.{IsSimpleOf, IsMinimalIn, IsTopIn, IsGap, IsLeastGap}
use Rattle.av_text.specs.Read.{Fault}
use Rattle.av_sys.specs.declared.terms.System.{System}
use Rattle.av_sys.specs.Terms.{IsWellFormed}
use Rattle.av_sys.specs.Exact.{Exact, Named}
use Rattle.av_build.specs.declared.limits.TheConstants.{MAX_SIZE}
use Rattle.av_build.specs.Canonical.{IsCanonical}
use Rattle.av_build.specs.Lean.{lean}
use Rattle.av_print.specs.Text.{◌⊹◌}
use Rattle.av_check.specs.declared.claim.Claim.{Claim}
use Rattle.av_check.specs.Claims.{IsClaim, IsRefused}
use Rattle.av_check.specs.Verdicts.{required_of, verdict}
use Rattle.av_session.specs.declared.options.Options.{Options}
use Rattle.av_session.specs.declared.status.Status.{Status}
use Rattle.av_session.specs.declared.status.Status.TheVariants as status
use Rattle.av_session.specs.Options.{options}
use Rattle.av_session.specs.Due.{settled_header, unsettled_text}
use Rattle.av_session.specs.Status.{HoldsText}
use Rattle.av_session.specs.Checked.{verdict_text, claim_subject, claim_text, claim_status, told_text, FitsTold}

-- what bytes are, read as a claim: it, or no claim, with the first fault
abbrev pub IsTold : List ℕ → Result Claim Fault → Type 0
IsTold bytes (Ok claim) = IsClaim bytes claim
IsTold bytes (Err fault) = IsRefused bytes fault.line fault.kind

-- the bytes that are read as a claim, where they are known: with `--check` those that the source has
abbrev pub claimed_by : Option Options → Option (List ℕ) → Option (List ℕ)
claimed_by None left = None
claimed_by (Some options) left = if options.check then left else None

unfoldable pub claim_bytes : List (List ℕ) → Option (List ℕ) → Option (List ℕ)
claim_bytes words left = claimed_by (options words) left

-- with these options: what is held where the bytes are read as a claim, and which status may come
abbrev pub HoldsCheck : Status → Option (List ℕ) → Option (List ℕ) → Options → List ℕ → Type 0
HoldsCheck s old new options bytes = (told : Result Claim Fault) → IsTold bytes told → HoldsText s old new (told_text options told)

abbrev pub FitsCheck : Status → Options → List ℕ → Type 0
FitsCheck s options bytes = (told : Result Claim Fault) → IsTold bytes told → FitsTold s options told

-- the same with the words of the command line
abbrev pub told_due_of : Option Options → Result Claim Fault → List ℕ
told_due_of None told = []
told_due_of (Some options) told = told_text options told

-- the text due of the words and of what the bytes that are read as a claim are
unfoldable pub told_due : List (List ℕ) → Result Claim Fault → List ℕ
told_due words told = told_due_of (options words) told

abbrev pub HoldsTold : Status → Option (List ℕ) → Option (List ℕ) → List (List ℕ) → List ℕ → Type 0
HoldsTold s old new words bytes = (told : Result Claim Fault) → IsTold bytes told → HoldsText s old new (told_due words told)

abbrev pub FitsTold_of : Status → Option Options → Result Claim Fault → Type 0
FitsTold_of s None told = Unit {0}
FitsTold_of s (Some options) told = FitsTold s options told

-- the status may come with these words and bytes
unfoldable pub FitsWords : Status → List (List ℕ) → List ℕ → Type 0
FitsWords s words bytes = (told : Result Claim Fault) → IsTold bytes told → FitsTold_of s (options words) told

-- what the answer to a claim says, in the words of the textbook
pub record IsAboutClaim (o : Options) (claim : Claim) : Type 0 where
  -- the basis and the required words are lists of words, and the system is well formed
  pub words : AreWords claim.basis
  pub required_words : AreWords (required_of claim)
  pub form : IsWellFormed claim.system
  -- the header gives the minimal words of the basis and the maximal required words other than the word 1, which make the same
  -- class
  pub minimal_words : IsListOf (IsMinimalIn claim.basis) (minimal claim.basis)
  pub maximal_words : IsListOf (IsTopIn (required_of claim)) (top (required_of claim))
  pub same_class : (σ : List ℕ) → InClassWith (minimal claim.basis) (top (required_of claim)) σ ↔ InClassWith claim.basis (required_of claim) σ
  -- its numbers are those of the simple permutations that avoid the basis
  pub simple_words : (m : ℕ) → IsListOf (IsSimpleOf claim.basis m) (simples (minimal claim.basis) m)
  -- the class is settled exactly where the basis has a gap within the limit of lengths, and else unsettled
  pub settled : (claim_status o claim ≡ status.Done) ↔ ((g : ℕ) × IsLeastGap claim.basis o.max_simple g)
  pub unsettled : (claim_status o claim ≡ status.Unsettled) ↔ ((g : ℕ) → IsGap claim.basis g → suc g ≤ o.max_simple → ⊥)
  -- the text due of each
  pub unsettled_is : ((g : ℕ) → IsGap claim.basis g → suc g ≤ o.max_simple → ⊥) → claim_text o claim ≡ unsettled_text (claim_subject o.max_simple claim)
  pub settled_is : (g : ℕ) → IsLeastGap claim.basis o.max_simple g
      → claim_text o claim ≡ settled_header (claim_subject o.max_simple claim) g ⊹ codes "check " ⊹ verdict_text (verdict claim (simples_below claim.basis g)) ⊹ codes "\n"
  -- the roots of the verdict are all simple permutations that avoid the basis
  pub roots : (g : ℕ) → IsLeastGap claim.basis o.max_simple g → IsListOf (λ σ. IsSimple σ × InClass claim.basis σ) (simples_below claim.basis g)
  -- where the text ends in `check yes`, the derivation trees of the system of each size have for values exactly the permutations
  -- of that length that avoid the basis and contain the required words, each once; and each of its equations generates exactly
  -- the permutations that its name describes, each once
  pub exact : (before : List ℕ) → claim_text o claim ≡ before ⊹ codes "check yes\n" → Exact claim.system claim.basis (required_of claim) × Named claim.system
  -- it does so where the system is the canonical one of the class, of at most MAX_SIZE equations and terms, or its lean system
  pub canonical : (g : ℕ) (S : System) → IsLeastGap claim.basis o.max_simple g → IsCanonical claim.basis (required_of claim) (simples_below claim.basis g) MAX_SIZE S
      → (claim.system ≡ S) ⊎ (claim.system ≡ lean S) → claim_text o claim ≡ settled_header (claim_subject o.max_simple claim) g ⊹ codes "check yes\n"

-- bytes are one claim, or they have one first fault: never both, and never neither
pub record HasTold (bytes : List ℕ) : Type 0 where
  pub some : ((told : Result Claim Fault) → IsTold bytes told → ⊥) → ⊥
  pub one : (told other : Result Claim Fault) → IsTold bytes told → IsTold bytes other → told ≡ other

-- accepted words with `--check`, a claim whose basis has a gap within the limit of lengths, and counts of faults that neither rise
-- nor stand at their end leave two statuses: the whole text, or want of memory
abbrev pub IsCheckComplete : Status → Option (List ℕ) → List (List ℕ) → Type 0 → Type 0 → Type 0
IsCheckComplete s left words read_rose write_rose =
    (bytes : List ℕ) (o : Options) (claim : Claim) (g : ℕ) → left ≡ Some bytes → options words ≡ Some o → o.check ≡ true → IsClaim bytes claim
    → IsLeastGap claim.basis o.max_simple g
    → (read_rose → ⊥) → (write_rose → ⊥) → (s ≡ status.Done) ⊎ (s ≡ status.Memory)
