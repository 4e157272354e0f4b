-- What is taken: words, names and systems that are short enough.
use Rattle.std.specs.Prelude.{ℕ, ◌≤◌, List, length, All}
use Rattle.av_perm.specs.declared.limits.TheConstants.{MAX_PATTERN_LENGTH}
use Rattle.av_sys.specs.declared.names.Name.{Name}
use Rattle.av_sys.specs.declared.terms.System.{System}
use Rattle.av_sys.specs.Terms.{IsWellFormed}

-- words of at most MAX_PATTERN_LENGTH entries
abbrev pub AreShort : List (List ℕ) → Type 0
AreShort ws = All (λ w. length w ≤ MAX_PATTERN_LENGTH) ws

-- a name of such words
pub record IsShortName (n : Name) : Type 0 where
  pub avoid : AreShort n.avoid
  pub require : AreShort n.require

-- a well-formed system with such names
pub record IsTaken (S : System) : Type 0 where
  pub form : IsWellFormed S
  pub names : All (λ e. IsShortName e.name) S.equations
