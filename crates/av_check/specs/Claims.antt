-- When a text is a claim, and which of its lines is at fault where it is none.
use Rattle.std.specs.Prelude.{◌≡◌, ◌⊎◌, ℕ, zero, suc, ◌+◌, ◌<◌, ◌≤◌, List, [], ◌∷◌, ◌++◌, length, Option, Some, None, Result, Ok, Err, codes}
use Rattle.av_perm.specs.Members.{In}
use Rattle.av_sys.specs.declared.names.Name.{Name}
use Rattle.av_sys.specs.declared.terms.Equation.{Equation}
use Rattle.av_sys.specs.declared.terms.System.{System}
use Rattle.av_sys.specs.Terms.{IsWellFormed}
use Rattle.av_text.specs.declared.kind.Kind.{Kind}
use Rattle.av_text.specs.declared.kind.Kind.TheVariants.{TooLong, BadClaim}
use Rattle.av_text.specs.declared.limits.TheConstants.{MAX_PATTERNS}
use Rattle.av_text.specs.Lines.{script_lines}
use Rattle.av_text.specs.Ranges.{IsPattern}
use Rattle.av_print.specs.Text.{◌⊹◌, words_text}
use Rattle.av_print.specs.Systems.{equation_text, terms_count, counts_text}
use Rattle.av_check.specs.declared.claim.Claim.{Claim}
use Rattle.av_check.specs.declared.limits.TheConstants.{MAX_CLAIM_BYTES, MAX_CLAIM_SIZE}
use Rattle.av_check.specs.declared.reading.claims.ClaimError.{ClaimError}
use Rattle.av_check.specs.declared.reading.claims.ClaimError.TheVariants.{Memory, Refused}

-- the line, with a line feed, is this text
abbrev pub HasText : List ℕ → List ℕ → Type 0
HasText line text = line ⊹ codes "\n" ≡ text

-- the line begins so
abbrev pub BeginsWith : List ℕ → List ℕ → Type 0
BeginsWith front line = (rest : List ℕ) × (line ≡ front ⊹ rest)

-- no line, or one of this kind
abbrev pub IsOptional : (List ℕ → Type 0) → List (List ℕ) → Type 0
IsOptional P [] = Unit {0}
IsOptional P (line ∷ []) = P line
IsOptional P (line ∷ other ∷ lines) = ⊥

-- words that a claim may name
abbrev pub ArePatterns : List (List ℕ) → Type 0
ArePatterns ws = (w : List ℕ) → In w ws → IsPattern w

-- a line of a key, as `basis`, and a list of words
pub record TellsWords (key : List ℕ) (words : List (List ℕ)) (line : List ℕ) : Type 0 where
  pub text : HasText line (key ⊹ codes " " ⊹ words_text words ⊹ codes "\n")
  pub few : length words ≤ MAX_PATTERNS
  pub patterns : ArePatterns words

-- the line of the required words, where there is one
abbrev pub TellsRequired : Option (List (List ℕ)) → List (List ℕ) → Type 0
TellsRequired None [] = Unit {0}
TellsRequired None (line ∷ lines) = ⊥
TellsRequired (Some words) [] = ⊥
TellsRequired (Some words) (line ∷ []) = TellsWords (codes "require") words line
TellsRequired (Some words) (line ∷ other ∷ lines) = ⊥

-- the first lines: those of the basis and of the required words, and what may stand before them
pub record AreFirstLines (patterns : List (List ℕ)) (needed : Option (List (List ℕ))) (lines : List (List ℕ)) : Type 0 where
  pub version : List (List ℕ)
  pub union : List (List ℕ)
  pub basis : List ℕ
  pub require : List (List ℕ)
  pub in_order : lines ≡ version ++ (union ++ (basis ∷ require))
  pub is_version : IsOptional (λ line. line ≡ codes "permspec 1") version
  pub is_union : IsOptional (BeginsWith (codes "union ")) union
  pub is_basis : TellsWords (codes "basis") patterns basis
  pub is_require : TellsRequired needed require

-- the line of a version, of the number of equations, and of the number that their terms are said to have
pub record TellsCounts (equations terms : ℕ) (line : List ℕ) : Type 0 where
  pub version : ℕ
  pub known : (version ≡ 1) ⊎ (version ≡ 2)
  pub some : 1 ≤ equations
  pub few : equations + terms ≤ MAX_CLAIM_SIZE
  pub text : HasText line (counts_text version equations terms)

-- the lines of equations that are numbered from u on
abbrev pub AreEquationLines : ℕ → List Equation → List (List ℕ) → Type 0
AreEquationLines u [] [] = Unit {0}
AreEquationLines u [] (line ∷ lines) = ⊥
AreEquationLines u (e ∷ es) [] = ⊥
AreEquationLines u (e ∷ es) (line ∷ lines) = HasText line (equation_text u e) × AreEquationLines (suc u) es lines

-- a name of words that a claim may name
pub record IsNamedByPatterns (name : Name) : Type 0 where
  pub avoided : ArePatterns name.avoid
  pub required : ArePatterns name.require

-- the lines of a system, whose terms are said to be so many, and what may stand before them
pub record AreSystemLines (system : System) (terms : ℕ) (lines : List (List ℕ)) : Type 0 where
  pub simples : List (List ℕ)
  pub gap : List (List ℕ)
  pub counts : List ℕ
  pub equations : List (List ℕ)
  pub in_order : lines ≡ simples ++ (gap ++ (counts ∷ equations))
  pub is_simples : IsOptional (BeginsWith (codes "simples ")) simples
  pub is_gap : IsOptional (BeginsWith (codes "gap ")) gap
  pub are_counts : TellsCounts (length system.equations) terms counts
  pub are_equations : AreEquationLines 0 system.equations equations
  pub formed : IsWellFormed system
  pub named : (e : Equation) → In e system.equations → IsNamedByPatterns e.name

-- the lines of a claim before the line `end`, by which the terms are said to be so many
pub record AreClaimLines (claim : Claim) (terms : ℕ) (lines : List (List ℕ)) : Type 0 where
  pub first : List (List ℕ)
  pub others : List (List ℕ)
  pub in_order : lines ≡ first ++ others
  pub are_first : AreFirstLines claim.basis claim.require first
  pub are_others : AreSystemLines claim.system terms others

-- a text is a claim: the lines before `end`, which say how many terms there are; this line; and any others
pub record IsClaim (bytes : List ℕ) (claim : Claim) : Type 0 where
  pub short : length bytes ≤ MAX_CLAIM_BYTES
  pub front : List (List ℕ)
  pub others : List (List ℕ)
  pub lines : script_lines bytes ≡ front ++ codes "end" ∷ others
  pub told : AreClaimLines claim (terms_count claim.system.equations) front

-- these lines are as demanded, each in its place: some claim has them for its first ones before `end`. How many terms there are
-- is asked in the place of `end` alone
pub record AreAsDemanded (lines : List (List ℕ)) : Type 0 where
  pub claim : Claim
  pub terms : ℕ
  pub others : List (List ℕ)
  pub told : AreClaimLines claim terms (lines ++ others)

-- this line ends a claim that has these lines before it
pub record IsEnd (front : List (List ℕ)) (line : List ℕ) : Type 0 where
  pub claim : Claim
  pub told : AreClaimLines claim (terms_count claim.system.equations) front
  pub text : line ≡ codes "end"

-- the line after so many is the first that isn't as demanded in its place
pub record IsFirstFault (lines : List (List ℕ)) (count : ℕ) : Type 0 where
  pub front : List (List ℕ)
  pub line : List ℕ
  pub others : List (List ℕ)
  pub in_order : lines ≡ front ++ line ∷ others
  pub before : length front ≡ count
  pub demanded : AreAsDemanded front
  pub fault : AreAsDemanded (front ++ line ∷ []) → ⊥
  pub no_end : IsEnd front line → ⊥

-- the number of that line, counted from 1, or 0 where the lines end before a claim does
abbrev pub IsFault : List (List ℕ) → ℕ → Type 0
IsFault lines zero = AreAsDemanded lines
IsFault lines (suc count) = IsFirstFault lines count

-- a text is no claim, with a line and a kind of fault
abbrev pub IsRefused : List ℕ → ℕ → Kind → Type 0
IsRefused bytes line TooLong = (MAX_CLAIM_BYTES < length bytes) × (line ≡ 0)
IsRefused bytes line BadClaim = (length bytes ≤ MAX_CLAIM_BYTES) × IsFault (script_lines bytes) line
IsRefused bytes line kind = ⊥

-- what a text is, unless memory is wanting
abbrev pub GivesClaim : List ℕ → Result Claim ClaimError → Type 0
GivesClaim bytes (Ok claim) = IsClaim bytes claim
GivesClaim bytes (Err Memory) = Unit {0}
GivesClaim bytes (Err (Refused line kind)) = IsRefused bytes line kind
