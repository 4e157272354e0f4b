-- The laws of the verdict.
use Rattle.std.specs.Prelude.{◌≡◌, ◌⊎◌, ℕ, List, length, slice_get, Some}
use Rattle.av_perm.specs.Members.{In, Once}
use Rattle.av_perm.specs.Relations.{IsWord, AreWords, AreBlocks, InClass, IsSimple}
use Rattle.av_perm.specs.Gap.{simples_below}
use Rattle.av_perm.specs.Laws.{IsGap}
use Rattle.av_sys.specs.declared.names.Name.{Name}
use Rattle.av_sys.specs.declared.terms.Equation.{Equation}
use Rattle.av_sys.specs.declared.terms.System.{System}
use Rattle.av_sys.specs.Terms.{IsWellFormed}
use Rattle.av_sys.specs.Exact.{Exact, Named}
use Rattle.av_split.specs.Boxes.{Box}
use Rattle.av_split.specs.Laws.{LiesIn}
use Rattle.av_build.specs.declared.limits.TheConstants.{MAX_SIZE}
use Rattle.av_build.specs.Canonical.{IsCanonical}
use Rattle.av_build.specs.Lean.{lean}
use Rattle.av_walk.specs.Walk.{Leaf}
use Rattle.av_walk.specs.Leaves.{leaves}
use Rattle.av_check.specs.declared.claim.Claim.{Claim}
use Rattle.av_check.specs.declared.verdict.Verdict.TheVariants as verdicts
use Rattle.av_check.specs.Verdicts.{required_of, verdict_up_to, verdict}

-- a name of words
pub record IsWordName (n : Name) : Type 0 where
  pub avoids : (w : List ℕ) → In w n.avoid → IsWord w
  pub requires : (w : List ℕ) → In w n.require → IsWord w

-- a claim of words with a well-formed system
pub record IsClaimOfWords (claim : Claim) : Type 0 where
  pub form : IsWellFormed claim.system
  pub basis : AreWords claim.basis
  pub required : AreWords (required_of claim)
  pub names : (e : Equation) → In e claim.system.equations → IsWordName e.name

-- simple words, among them all of the class
pub record HoldsAllSimples (basis simples : List (List ℕ)) : Type 0 where
  pub simple : (w : List ℕ) → In w simples → IsSimple w
  pub all : (w : List ℕ) → IsSimple w → InClass basis w → In w simples

-- the system generates exactly the words of the claim's class, each by one derivation tree, at every size, and each of its
-- equations exactly the words that its name describes
abbrev pub IsRightClaim : Claim → Type 0
IsRightClaim claim = Exact claim.system claim.basis (required_of claim) × Named claim.system

-- so it does where the verdict is yes, whatever the limit of the systems that are asked for
abbrev pub SoundLaw : Type 0
SoundLaw = (limit : ℕ) (claim : Claim) (simples : List (List ℕ)) → IsClaimOfWords claim → HoldsAllSimples claim.basis simples → verdict_up_to limit claim simples ≡ verdicts.Yes → IsRightClaim claim

-- the claimed system is this one or its lean system
abbrev pub Claims : Claim → System → Type 0
Claims claim S = (claim.system ≡ S) ⊎ (claim.system ≡ lean S)

-- the verdict on the canonical system of the class, where it is within the limit, and on its lean system is yes. The roots need
-- not hold all simple words of the class
abbrev pub CompleteLaw : Type 0
CompleteLaw = (limit : ℕ) (claim : Claim) (simples : List (List ℕ)) (S : System) → AreWords claim.basis → AreWords (required_of claim) → ((w : List ℕ) → In w simples → IsSimple w) → Once simples
    → IsCanonical claim.basis (required_of claim) simples limit S → Claims claim S → verdict_up_to limit claim simples ≡ verdicts.Yes

-- with the simple words of the class below a gap: a yes says that the claim is right, and the canonical system within MAX_SIZE
-- and its lean system have a yes
pub record ChecksClaim (claim : Claim) (gap : ℕ) : Type 0 where
  pub sound : verdict claim (simples_below claim.basis gap) ≡ verdicts.Yes → IsRightClaim claim
  pub complete : (S : System) → IsCanonical claim.basis (required_of claim) (simples_below claim.basis gap) MAX_SIZE S → Claims claim S → verdict claim (simples_below claim.basis gap) ≡ verdicts.Yes

-- so of every claim of words and every gap of its basis' class
abbrev pub CheckLaw : Type 0
CheckLaw = (claim : Claim) (gap : ℕ) → IsClaimOfWords claim → IsGap claim.basis gap → ChecksClaim claim gap

-- a list of blocks of a root lies in the cell of some leaf, and in those of no two
pub record IsParted (π : List ℕ) (n : Name) (nss : List (List Name)) (αs : List (List ℕ)) : Type 0 where
  pub some : (l : Leaf Box) × In l (leaves π n nss) × LiesIn π αs l.cell
  pub once : (i j : ℕ) (l m : Leaf Box) → slice_get (leaves π n nss) i ≡ Some l → slice_get (leaves π n nss) j ≡ Some m → LiesIn π αs l.cell → LiesIn π αs m.cell → i ≡ j

-- so does each, where the terms have a name for each child of the root, and all names are of words
abbrev pub PartLaw : Type 0
PartLaw = (π : List ℕ) (n : Name) (nss : List (List Name)) (αs : List (List ℕ)) → IsWord π → IsWordName n
    → ((ns : List Name) → In ns nss → length ns ≡ length π) → ((ns : List Name) → In ns nss → (m : Name) → In m ns → IsWordName m) → AreBlocks π αs → IsParted π n nss αs
