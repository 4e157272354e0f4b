-- What is marked of the patterns of a child, and what becomes of the marks.
use Rattle.std.specs.Prelude.{◌≡◌, ℕ, ◌<◌, ◌==◌, Bool, true, false, cond, not, ◌&&◌, List, [], ◌∷◌, map, length, get_or}
use Rattle.av_perm.specs.Members.{In}
use Rattle.av_perm.specs.Contain.{contains}
use Rattle.av_perm.specs.Class.{in_shortlex}
use Rattle.av_sys.specs.declared.names.Constraint.{Constraint}
use Rattle.av_name.specs.declared.constraints.Known.{Known}
use Rattle.av_name.specs.declared.constraints.Known.TheVariants.{Inside, Outside, Open as Unknown}
use Rattle.av_name.specs.Constraints.{once_avoided, once_required}
use Rattle.av_split.specs.declared.rows.Mark.{Mark}

-- the mark of a pattern of which nothing is known, in whose place any other serves
abbrev pub unmarked : Mark
unmarked = record { known = Unknown; named = false }

-- what is known of a pattern once a word is required, or avoided, by whether that tells of the pattern
abbrev pub once : Bool → Bool → Known → Known
once true related k = once_required related k
once false related k = once_avoided related k

-- what is known of a required word, or of an avoided one
abbrev pub side : Bool → Known
side true = Inside
side false = Outside

-- the test of it
abbrev pub is_side : Bool → Known → Bool
is_side required Unknown = false
is_side required Inside = required
is_side required Outside = not required

-- the mark is that of a required word of the constraint, or of an avoided one
abbrev pub is_named : Bool → Mark → Bool
is_named required m = m.named && is_side required m.known

-- the mark once a word is settled, by whether the pattern is that word, and whether the word tells of it
abbrev pub next_mark : Bool → Bool → Bool → Mark → Mark
next_mark required itself true m = record { known = once required true m.known; named = itself }
next_mark required itself false m = m

-- pattern number `i` is settled by pattern number `p`: that is required and contains it, or is avoided and within it
abbrev pub relates : Bool → List (List ℕ) → ℕ → ℕ → Bool
relates true ps p i = contains (get_or ps p []) (get_or ps i [])
relates false ps p i = contains (get_or ps i []) (get_or ps p [])

-- the marks of a child once pattern number `p` is settled
pub record IsSettledRow (required : Bool) (ps : List (List ℕ)) (p : ℕ) (row next : List Mark) : Type 0 where
  pub size : length next ≡ length row
  pub marks : (i : ℕ) → i < length ps → get_or next i unmarked ≡ next_mark required (i == p) (relates required ps p i) (get_or row i unmarked)

-- the patterns that are required words of the constraint, or avoided ones
abbrev pub named : Bool → List (List ℕ) → List Mark → List (List ℕ)
named required (w ∷ ps) (m ∷ row) = cond (is_named required m) (w ∷ named required ps row) (named required ps row)
named required _ _ = []

-- a pattern by its number, where it is one of them
abbrev pub named_at : List (List ℕ) → Bool → List Mark → ℕ → List (List ℕ)
named_at ps required row i = cond (is_named required (get_or row i unmarked)) (get_or ps i [] ∷ []) []

-- the constraint of a child with these marks
abbrev pub constraint_of : List (List ℕ) → List Mark → Constraint
constraint_of ps row = record { avoid = in_shortlex (named false ps row); require = in_shortlex (named true ps row) }

-- the box with these marks
abbrev pub box_of : List (List ℕ) → List (List Mark) → List Constraint
box_of ps rows = map (constraint_of ps) rows

-- the mark of a word where nothing is avoided or required
abbrev pub free_mark : List ℕ → Mark
free_mark w = record { known = cond (length w == 1) Inside Unknown; named = false }

-- the numbers of the patterns in shortlex order
pub record IsOrder (ps : List (List ℕ)) (order : List ℕ) : Type 0 where
  pub words : map (λ i. get_or ps i []) order ≡ in_shortlex ps
  pub within : (i : ℕ) → In i order → i < length ps
  pub all : (i : ℕ) → i < length ps → In i order
