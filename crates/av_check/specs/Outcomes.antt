-- What the canonical systems of names tell: the answers kept, and the loop over the names of a cell.
use Rattle.std.specs.Prelude.{◌≡◌, ℕ, Bool, true, false, cond, List, Option, Some, None}
use Rattle.std.specs.List.{list_any}
use Rattle.av_perm.specs.Members.{In}
use Rattle.av_perm.specs.Class.{top}
use Rattle.av_sys.specs.declared.names.Name.{Name}
use Rattle.av_build.specs.declared.limits.TheConstants.{MAX_SIZE}
use Rattle.av_build.specs.Laws.{Covers}
use Rattle.av_check.specs.declared.outcomes.Outcome.{Outcome}
use Rattle.av_check.specs.declared.outcomes.Outcome.TheVariants.{Dead, Alive, TooLarge}
use Rattle.av_check.specs.declared.verdict.Flaw.{Flaw}
use Rattle.av_check.specs.declared.verdict.Flaw.TheVariants.{Large}
use Rattle.av_check.specs.Verdicts.{is_dead, is_large}
use Rattle.av_check.specs.Checks.{AreShort}

-- the name's canonical system within MAX_SIZE generates nothing, something, or there is none
abbrev pub outcome_by : Bool → Bool → Outcome
outcome_by true large = Dead
outcome_by false true = TooLarge
outcome_by false false = Alive

abbrev pub outcome : List (List ℕ) → Name → Outcome
outcome simples n = outcome_by (is_dead MAX_SIZE simples n) (is_large MAX_SIZE simples n)

-- names with their outcomes
abbrev pub AreOutcomes : List (List ℕ) → List (Name × Outcome) → Type 0
AreOutcomes simples found = (p : Name × Outcome) → In p found → p.1 ≡ outcome simples p.0

-- a name over a basis whose canonical system can be grown
pub record IsGrowable (basis : List (List ℕ)) (n : Name) : Type 0 where
  pub avoid : AreShort n.avoid
  pub require : AreShort n.require
  pub top : top n.require ≡ n.require
  pub covers : Covers basis n.avoid

-- the flaw of a bare leaf where it is this one unless a name that is left is dead or too large
abbrev pub flaw_from : Flaw → List (List ℕ) → List Name → Option Flaw
flaw_from flaw simples ns = cond (list_any (is_dead MAX_SIZE simples) ns) None (Some (cond (list_any (is_large MAX_SIZE simples) ns) Large flaw))
