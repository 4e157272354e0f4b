-- What constraints and names ask of a word.
use Rattle.std.specs.Prelude.{◌≡◌, ℕ, ◌↔◌, Bool, true, ◌&&◌, List}
use Rattle.av_perm.specs.Members.{In}
use Rattle.av_perm.specs.Word.{ArePerms}
use Rattle.av_perm.specs.Class.{avoids_all, contains_all}
use Rattle.av_perm.specs.Simple.{is_sum_indecomposable, is_skew_indecomposable}
use Rattle.av_perm.specs.Relations.{IsWord, Contains, Avoids, IsSumIndecomposable, IsSkewIndecomposable}
use Rattle.av_sys.specs.declared.names.Sign.{Sign}
use Rattle.av_sys.specs.declared.names.Sign.TheVariants.{C, P, M}
use Rattle.av_sys.specs.declared.names.Constraint.{Constraint}
use Rattle.av_sys.specs.declared.names.Name.{Name}

-- the word avoids each word of `A` and contains each word of `R`
pub record Meets (A R : List (List ℕ)) (σ : List ℕ) : Type 0 where
  pub avoids : (a : List ℕ) → In a A → Avoids σ a
  pub contains : (r : List ℕ) → In r R → Contains σ r

-- a word of the region of a constraint
pub record InRegion (c : Constraint) (σ : List ℕ) : Type 0 where
  pub word : IsWord σ
  pub meets : Meets c.avoid c.require σ

-- what a sign asks: nothing, not to be a sum, not to be a skew sum
abbrev pub IsSigned : Sign → List ℕ → Type 0
IsSigned C σ = Unit {0}
IsSigned P σ = IsSumIndecomposable σ
IsSigned M σ = IsSkewIndecomposable σ

-- a word that means a name
pub record Means (name : Name) (σ : List ℕ) : Type 0 where
  pub word : IsWord σ
  pub meets : Meets name.avoid name.require σ
  pub signed : IsSigned name.sign σ

-- the words that a name avoids and requires have 1 to MAX_LENGTH entries, as the type `Words` holds them
pub record IsMadeOfWords (name : Name) : Type 0 where
  pub avoided : ArePerms name.avoid
  pub required : ArePerms name.require

-- the test of a sign
abbrev pub meets_sign : Sign → List ℕ → Bool
meets_sign C w = true
meets_sign P w = is_sum_indecomposable w
meets_sign M w = is_skew_indecomposable w

-- the test of a name: the word avoids each avoided word, contains each required one, and meets the sign
abbrev pub means : Name → List ℕ → Bool
means name w = avoids_all name.avoid w && (contains_all name.require w && meets_sign name.sign w)

-- of words, the test of a name passes exactly those that mean it
abbrev pub MeansLaw : Type 0
MeansLaw = (name : Name) (σ : List ℕ) → IsWord σ → (means name σ ≡ true) ↔ Means name σ
