-- What is so of the output of a run, as a claim.
use Rattle.std.specs.Prelude.{◌≡◌, ℕ, ◌≤◌, List, length, false, Some, Ok, codes}
use Rattle.std.specs.Option.{option_map}
use Rattle.av_perm.specs.Class.{minimal, top}
use Rattle.av_text.specs.declared.limits.TheConstants.{MAX_PATTERNS}
use Rattle.av_text.specs.declared.script.Script.{Script}
use Rattle.av_text.specs.Read.{read}
use Rattle.av_print.specs.Text.{◌⊹◌}
use Rattle.av_check.specs.declared.claim.Claim.{Claim}
use Rattle.av_check.specs.declared.limits.TheConstants.{MAX_CLAIM_BYTES}
use Rattle.av_check.specs.Claims.{IsClaim}
use Rattle.av_session.specs.declared.options.Options.{Options}
use Rattle.av_session.specs.declared.solving.Solved.TheVariants.{Settled}
use Rattle.av_session.specs.Options.{options, IsAllowed}
use Rattle.av_session.specs.Classes.{Class}
use Rattle.av_session.specs.Solved.{basis_of, solved_script}
use Rattle.av_session.specs.Due.{settled_header}
use Rattle.av_session.specs.Runs.{due}
use Rattle.av_session.specs.Checked.{claim_subject, claim_text}

-- the claim that a run makes: the words of the header and the system
abbrev pub claim_of : Script → Class → Claim
claim_of script class = record { basis = minimal (basis_of script); require = option_map top script.require; system = class.system }

-- the text due of a script is this claim, and with every limit of lengths from its own on the answer to it is yes
pub record IsRight (words : List (List ℕ)) (bytes : List ℕ) (o : Options) (script : Script) (class : Class) : Type 0 where
  pub is_claim : IsClaim (due words bytes) (claim_of script class)
  pub yes : (p : Options) → IsAllowed p → o.max_simple ≤ p.max_simple
      → claim_text p (claim_of script class) ≡ settled_header (claim_subject p.max_simple (claim_of script class)) class.gap ⊹ codes "check yes\n"

-- so wherever the words are accepted and don't ask for a check, the bytes are a script of a settled class, its basis has no more
-- words than a claim may have, and the text is no longer
abbrev pub OutputLaw : Type 0
OutputLaw = (words : List (List ℕ)) (bytes : List ℕ) (o : Options) (script : Script) (class : Class) → options words ≡ Some o → o.check ≡ false
    → read bytes ≡ Ok script → solved_script o script ≡ Settled class → length (minimal (basis_of script)) ≤ MAX_PATTERNS → length (due words bytes) ≤ MAX_CLAIM_BYTES
    → IsRight words bytes o script class
