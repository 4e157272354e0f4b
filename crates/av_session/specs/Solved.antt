-- What is known of a class within the limits.
use Rattle.std.specs.Prelude.{◌≡◌, ℕ, ◌≤◌, List, length, All, nat_lt, if◌then◌else◌, Option, Some, None}
use Rattle.std.specs.Option.{option_map}
use Rattle.av_perm.specs.declared.limits.TheConstants.{MAX_PATTERN_LENGTH}
use Rattle.av_perm.specs.Class.{minimal, top}
use Rattle.av_perm.specs.Gap.{simples_below}
use Rattle.av_simple.specs.Searched.{gap_of}
use Rattle.av_build.specs.Canonical.{Grown, grow, grown_size, as_system}
use Rattle.av_text.specs.declared.script.Script.{Script}
use Rattle.av_union.specs.Union.{union}
use Rattle.av_session.specs.declared.subject.Subject.{Subject}
use Rattle.av_session.specs.declared.subject.United.{United}
use Rattle.av_session.specs.declared.options.Options.{Options}
use Rattle.av_session.specs.Classes.{required_of, in_format}
use Rattle.av_session.specs.declared.solving.Solved.{Solved}
use Rattle.av_session.specs.declared.solving.Solved.TheVariants.{Unsettled, TooLarge, Settled}
use Rattle.av_session.specs.declared.status.Status.{Status}
use Rattle.av_session.specs.declared.status.Status.TheVariants as status

-- a list of minimal words, which are words of at most MAX_PATTERN_LENGTH entries
pub record IsBasis (basis : List (List ℕ)) : Type 0 where
  pub reduced : minimal basis ≡ basis
  pub short : All (λ w. length w ≤ MAX_PATTERN_LENGTH) basis

-- a list of maximal words but for the word 1, which are words of at most MAX_PATTERN_LENGTH entries
pub record AreRequiredWords (required : List (List ℕ)) : Type 0 where
  pub reduced : top required ≡ required
  pub short : All (λ w. length w ≤ MAX_PATTERN_LENGTH) required

-- what has grown of the canonical system of a class with required words, where the basis has gap g: the roots are the simple
-- words below the gap that avoid it, and as many equations were gone through as the limit says
abbrev pub grown_to : List (List ℕ) → List (List ℕ) → ℕ → ℕ → Grown
grown_to basis required g limit = grow basis required (simples_below basis g) limit

-- a class with gap g, by what grew within the limit of sizes, with its system in a format
abbrev pub sized : Subject → ℕ → ℕ → ℕ → Grown → Solved
sized subject g limit format grown =
    if nat_lt limit (grown_size grown) then TooLarge subject g
    else Settled (record { subject = subject; gap = g; format = format; system = in_format format (as_system grown) })

-- a class by its gap within the limit of lengths, or by that it has none
abbrev pub solved_by : Subject → ℕ → ℕ → Option ℕ → Solved
solved_by subject limit format None = Unsettled subject
solved_by subject limit format (Some g) = sized subject g limit format (grown_to subject.found.basis (required_of subject) g limit)

-- the subject of two lists that are united, or none, of a basis, and of required words, or none, where lengths up to the limit are
-- searched
abbrev pub subject_of : Option United → List (List ℕ) → Option (List (List ℕ)) → ℕ → Subject
subject_of united basis require limit = record { united = united; found = record { basis = basis; limit = limit }; require = require }

-- what is known of the class of these within the limits, with its system in a format
unfoldable pub solved : Options → Option United → List (List ℕ) → Option (List (List ℕ)) → ℕ → Solved
solved options united basis require format =
    let subject : Subject = subject_of united basis require options.max_simple in solved_by subject options.max_size format (gap_of subject.found)

-- the basis that two lists give, of which there may be no second: that of the union of their classes, or the first list
abbrev pub basis_with : List (List ℕ) → Option (List (List ℕ)) → List (List ℕ)
basis_with first None = first
basis_with first (Some second) = union first second

-- the basis of a script: that of the union of the classes of its basis line and of its union line, or where it has no union line
-- the words of the basis line
abbrev pub basis_of : Script → List (List ℕ)
basis_of script = basis_with script.basis script.union_with

-- two lists, each reduced to its minimal words, where there is a second
abbrev pub lists_with : List (List ℕ) → Option (List (List ℕ)) → Option United
lists_with first None = None
lists_with first (Some second) = Some (record { first = minimal first; second = minimal second })

-- those of the basis line and of the union line of a script
abbrev pub lists_of : Script → Option United
lists_of script = lists_with script.basis script.union_with

-- and of the class of a script, whose basis is reduced to its minimal words, and its required words to the maximal ones
abbrev pub solved_script : Options → Script → Solved
solved_script options script = solved options (lists_of script) (minimal (basis_of script)) (option_map top script.require) script.format

-- the status that says which of the three it is
abbrev pub status_of : Solved → Status
status_of (Unsettled subject) = status.Unsettled
status_of (TooLarge subject g) = status.TooLarge
status_of (Settled class) = status.Done
