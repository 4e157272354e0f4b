-- A settled class.
use Rattle.std.specs.Prelude.{ℕ, List, [], ◌==◌, unwrap_or, if◌then◌else◌}
use Rattle.av_sys.specs.declared.terms.System.{System}
use Rattle.av_sys.specs.Terms.{IsWellFormed}
use Rattle.av_sys.specs.Exact.{Exact, Named}
use Rattle.av_build.specs.Lean.{lean}
use Rattle.av_session.specs.declared.subject.Subject.{Subject}

-- the required words of what a script asks about: none where it has no line of them
abbrev pub required_of : Subject → List (List ℕ)
required_of subject = unwrap_or subject.require []

-- the system in a format: the canonical one itself, or the lean one
abbrev pub in_format : ℕ → System → System
in_format format S = if format == 1 then S else lean S

-- what its script asks about, the gap, the format, and its system in this format
pub record Class : Type 0 where
  pub subject : Subject
  pub gap : ℕ
  pub format : ℕ
  pub system : System

-- what holds of each settled class
pub record IsSettledClass (class : Class) : Type 0 where
  pub form : IsWellFormed class.system
  -- the values of the system's derivation trees of each size are exactly the words of that length that avoid the basis and contain
  -- the required words, each once
  pub exact : Exact class.system class.subject.found.basis (required_of class.subject)
  -- each equation generates exactly what its name describes
  pub named : Named class.system
