-- The laws of constraints.
use Rattle.std.specs.Prelude.{◌≡◌, ◌⊎◌, ℕ, ◌≤◌, ◌↔◌, List, length}
use Rattle.av_perm.specs.Members.{In}
use Rattle.av_perm.specs.Class.{minimal, maximal}
use Rattle.av_perm.specs.Relations.{IsWord, AreWords, Contains, Avoids}
use Rattle.av_sys.specs.declared.names.Constraint.{Constraint}
use Rattle.av_sys.specs.Names.{InRegion}
use Rattle.av_name.specs.declared.constraints.Known.TheVariants.{Inside, Outside, Open}
use Rattle.av_name.specs.Constraints.{free, known_of, add_avoid, add_require, IsClean}

-- the pattern is the word 1, or some required word contains it
abbrev pub IsRequired : Constraint → List ℕ → Type 0
IsRequired c p = (length p ≡ 1) ⊎ ((r : List ℕ) × In r c.require × Contains r p)

-- the pattern has at least two entries and contains some avoided word
abbrev pub IsAvoided : Constraint → List ℕ → Type 0
IsAvoided c p = (2 ≤ length p) × ((a : List ℕ) × In a c.avoid × Contains p a)

-- what the constraint knows of the pattern: when it is inside or outside, and what that says of the region
pub record KnowsOf (c : Constraint) (p : List ℕ) : Type 0 where
  pub inside : (known_of c p ≡ Inside) ↔ IsRequired c p
  pub outside : IsClean c → (known_of c p ≡ Outside) ↔ IsAvoided c p
  pub inside_says : known_of c p ≡ Inside → (σ : List ℕ) → InRegion c σ → Contains σ p
  pub outside_says : known_of c p ≡ Outside → (σ : List ℕ) → InRegion c σ → Avoids σ p

-- so of every constraint and word
abbrev pub KnownLaw : Type 0
KnownLaw = (c : Constraint) (p : List ℕ) → IsWord p → KnowsOf c p

-- the free constraint asks nothing of a word
abbrev pub FreeLaw : Type 0
FreeLaw = (σ : List ℕ) → InRegion free σ ↔ IsWord σ

-- the words of a constraint are words
pub record IsOfWords (c : Constraint) : Type 0 where
  pub avoid : AreWords c.avoid
  pub require : AreWords c.require

-- what the two additions of a pattern make of a constraint
pub record Grows (c : Constraint) (p : List ℕ) : Type 0 where
  pub avoiding : (σ : List ℕ) → InRegion (add_avoid c p) σ ↔ (InRegion c σ × Avoids σ p)
  pub requiring : (σ : List ℕ) → InRegion (add_require c p) σ ↔ (InRegion c σ × Contains σ p)
  pub minimal : minimal (add_avoid c p).avoid ≡ (add_avoid c p).avoid
  pub maximal : maximal (add_require c p).require ≡ (add_require c p).require
  pub clean : IsClean c → IsClean (add_avoid c p) × IsClean (add_require c p)

-- so of every constraint of words and pattern of which nothing is known
abbrev pub GrowthLaw : Type 0
GrowthLaw = (c : Constraint) (p : List ℕ) → IsOfWords c → IsWord p → known_of c p ≡ Open → Grows c p
