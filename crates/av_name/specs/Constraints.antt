-- What a constraint tells of a pattern, and how it grows.
use Rattle.std.specs.Prelude.{ℕ, Bool, true, false, ◌||◌, eqb, List, [], ◌∷◌, length}
use Rattle.std.specs.List.{list_any}
use Rattle.av_perm.specs.Members.{In}
use Rattle.av_perm.specs.Contain.{contains}
use Rattle.av_perm.specs.Class.{minimal, maximal}
use Rattle.av_perm.specs.Relations.{Avoids}
use Rattle.av_sys.specs.declared.names.Constraint.{Constraint}
use Rattle.av_name.specs.declared.constraints.Known.{Known}
use Rattle.av_name.specs.declared.constraints.Known.TheVariants.{Inside, Outside, Open}

-- nothing avoided, nothing required
abbrev pub free : Constraint
free = record { avoid = []; require = [] }

-- each word of the region contains the pattern: it is the word 1, or some required word contains it
abbrev pub is_required : Constraint → List ℕ → Bool
is_required c p = eqb (length p) 1 || list_any (λ r. contains r p) c.require

-- no word of the region contains the pattern: it contains some avoided word
abbrev pub is_avoided : Constraint → List ℕ → Bool
is_avoided c p = list_any (λ a. contains p a) c.avoid

-- `Inside` where the first holds, else `Outside` where the second does, and `Open` otherwise
abbrev pub known_by : Bool → Bool → Known
known_by true b = Inside
known_by false true = Outside
known_by false false = Open

-- what is known of the pattern in the region of the constraint
unfoldable pub known_of : Constraint → List ℕ → Known
known_of c p = known_by (is_required c p) (is_avoided c p)

-- the pattern joins the avoided words
abbrev pub add_avoid : Constraint → List ℕ → Constraint
add_avoid c p = record { avoid = minimal (p ∷ c.avoid); require = c.require }

-- the pattern joins the required words
abbrev pub add_require : Constraint → List ℕ → Constraint
add_require c p = record { avoid = c.avoid; require = maximal (p ∷ c.require) }

-- no required word contains an avoided word
abbrev pub IsClean : Constraint → Type 0
IsClean c = (r a : List ℕ) → In r c.require → In a c.avoid → Avoids r a

-- what becomes of what was known of a word when the pattern is avoided, by whether the word contains it
abbrev pub once_avoided : Bool → Known → Known
once_avoided true Open = Outside
once_avoided true k = k
once_avoided false k = k

-- and when the pattern is required, by whether it contains the word
abbrev pub once_required : Bool → Known → Known
once_required true Open = Inside
once_required true k = k
once_required false k = k
