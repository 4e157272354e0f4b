-- The top of the derivation tree of a word: a term, and the blocks for its children.
use Rattle.std.specs.Prelude.{◌≡◌, ◌⊎◌, ℕ, ◌<◌, true, List, length, get_or, Option, Some, None}
use Rattle.av_perm.specs.Class.{avoids_all}
use Rattle.av_perm.specs.Relations.{AreBlocks, block, inflate, sum_root, skew_root}
use Rattle.av_decomp.specs.Blocks.{blocks_at, halves_at}
use Rattle.av_sys.specs.declared.terms.Term.{Term}
use Rattle.av_sys.specs.declared.terms.Term.TheVariants.{Point, Node}
use Rattle.av_sys.specs.declared.terms.System.{System}
use Rattle.av_sys.specs.Terms.{terms_at, term_at, IsSystemRoot}
use Rattle.av_sys.specs.Exact.{MeansAt}

-- each block means the name of the equation at its place
abbrev pub AllMean : System → List ℕ → List (List ℕ) → Type 0
AllMean S cs αs = (i : ℕ) → i < length cs → MeansAt S (get_or cs i 0) (block αs i)

-- each block avoids the words
abbrev pub AllAvoid : List (List ℕ) → List (List ℕ) → Type 0
AllAvoid known αs = (i : ℕ) → i < length αs → avoids_all known (block αs i) ≡ true

-- a node with this root, where the blocks mean the names of its children's equations
abbrev pub FitsTerm : System → List ℕ → List (List ℕ) → Option Term → Type 0
FitsTerm S root αs None = ⊥
FitsTerm S root αs (Some Point) = ⊥
FitsTerm S root αs (Some (Node own cs)) = (own ≡ root) × AllMean S cs αs

-- a term of the equation is one
pub record FitsAt (S : System) (u : ℕ) (root : List ℕ) (αs : List (List ℕ)) (t : ℕ) : Type 0 where
  pub within : t < length (terms_at S u)
  pub fits : FitsTerm S root αs (term_at S u t)

-- no term of the equation is one
abbrev pub FitsNone : System → ℕ → List ℕ → List (List ℕ) → Type 0
FitsNone S u root αs = (t : ℕ) → FitsTerm S root αs (term_at S u t) → ⊥

-- the word is the inflation of the root by the blocks
pub record IsInflationOf (w root : List ℕ) (αs : List (List ℕ)) : Type 0 where
  pub blocks : AreBlocks root αs
  pub value : inflate root αs ≡ w

-- a term of the equation is a node, of whose root the word is the inflation by the blocks, and the blocks mean the names of the
-- children's equations
pub record IsTop (S : System) (u : ℕ) (w : List ℕ) (t : ℕ) (αs : List (List ℕ)) : Type 0 where
  pub root : List ℕ
  pub inflation : IsInflationOf w root αs
  pub here : FitsAt S u root αs t

-- the root is 12 or 21
abbrev pub IsTwoRoot : List ℕ → Type 0
IsTwoRoot π = (π ≡ sum_root) ⊎ (π ≡ skew_root)

-- the parts of a word that is cut after k entries inflate the root to it
abbrev pub IsCutAt : List ℕ → List ℕ → ℕ → Type 0
IsCutAt w root k = inflate root (blocks_at w (halves_at (length w) k)) ≡ w

-- at no such cut there is a top
abbrev pub HasNoCutTop : System → ℕ → List ℕ → List ℕ → ℕ → Type 0
HasNoCutTop S u w root k = IsCutAt w root k → FitsNone S u root (blocks_at w (halves_at (length w) k))

-- there is no top: of no root of a system do blocks that inflate it to the word fit a term
abbrev pub HasNoTop : System → ℕ → List ℕ → Type 0
HasNoTop S u w = (root : List ℕ) (αs : List (List ℕ)) → IsSystemRoot root → AreBlocks root αs → inflate root αs ≡ w → FitsNone S u root αs
