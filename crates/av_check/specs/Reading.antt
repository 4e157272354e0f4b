-- What the parts of a claim tell when they are read. A line is cut into tokens, which stand between single spaces.
use Rattle.std.specs.Prelude.{◌≡◌, ◌⊎◌, ℕ, ◌+◌, ◌<◌, ◌≤◌, List, [], ◌∷◌, ◌++◌, length, map, Option, Some, None, Result, Ok, Err, codes, decimal}
use Rattle.av_perm.specs.Members.{In}
use Rattle.av_sys.specs.declared.names.Sign.{Sign}
use Rattle.av_sys.specs.declared.terms.Term.{Term}
use Rattle.av_sys.specs.declared.terms.Term.TheVariants.{Point, Node}
use Rattle.av_sys.specs.declared.terms.Equation.{Equation}
use Rattle.av_sys.specs.declared.terms.System.{System}
use Rattle.av_sys.specs.Terms.{IsNodeOf, IsTermOf}
use Rattle.av_text.specs.declared.limits.TheConstants.{MAX_PATTERNS}
use Rattle.av_print.specs.Text.{word_text, root_text}
use Rattle.av_print.specs.Systems.{number_text, children_text, sign_text, term_text, equation_text, terms_count, counts_text}
use Rattle.av_check.specs.declared.limits.TheConstants.{MAX_CLAIM_SIZE}
use Rattle.av_check.specs.declared.reading.announced.Counts.{Counts}
use Rattle.av_check.specs.declared.claim.Claim.{Claim}
use Rattle.av_check.specs.declared.reading.claims.Front.{Front}
use Rattle.av_check.specs.declared.reading.claims.Stop.{Stop}
use Rattle.av_check.specs.declared.reading.claims.Stop.TheVariants as stop
use Rattle.av_check.specs.Claims.{ArePatterns, IsNamedByPatterns, HasText, BeginsWith, IsOptional, TellsWords, TellsCounts, AreEquationLines, AreFirstLines, AreSystemLines, AreClaimLines, AreAsDemanded, IsEnd}

-- a value of P whose text this is, or none where no such value has it
abbrev pub Reads : {V T : Type 0} → (V → Type 0) → (V → T) → T → Option V → Type 0
Reads P text t (Some v) = P v × (t ≡ text v)
Reads {V} P text t None = (v : V) → P v → t ≡ text v → ⊥

-- the tokens of a list of words
abbrev pub list_tokens : List (List ℕ) → List (List ℕ)
list_tokens [] = codes "none" ∷ []
list_tokens (w ∷ ws) = word_text w ∷ map word_text ws

-- a list of words for a line of its own
pub record IsFewPatterns (words : List (List ℕ)) : Type 0 where
  pub few : length words ≤ MAX_PATTERNS
  pub patterns : ArePatterns words

-- children of a system of so many equations
abbrev pub AreNumbers : ℕ → List ℕ → Type 0
AreNumbers count children = (c : ℕ) → In c children → c < count

pub record AreChildren (count : ℕ) (children : List ℕ) : Type 0 where
  pub some : 0 < length children
  pub numbers : AreNumbers count children

-- a node of such a system
abbrev pub IsNodeTerm : ℕ → Term → Type 0
IsNodeTerm count Point = ⊥
IsNodeTerm count (Node root children) = IsNodeOf count root children

-- its text before and after the opening bracket, but for the closing one
abbrev pub root_part : Term → List ℕ
root_part Point = []
root_part (Node root children) = root_text root

abbrev pub children_part : Term → List ℕ
children_part Point = []
children_part (Node root children) = children_text children

-- terms of such a system
abbrev pub AreTermsOf : ℕ → List Term → Type 0
AreTermsOf count terms = (t : Term) → In t terms → IsTermOf count t

pub record AreSomeTerms (count : ℕ) (list : List Term) : Type 0 where
  pub some : 0 < length list
  pub terms : AreTermsOf count list

-- the tokens of terms with a bar between each two
abbrev pub barred_tokens : List Term → List (List ℕ)
barred_tokens [] = []
barred_tokens (t ∷ []) = term_text t ∷ []
barred_tokens (t ∷ s ∷ ts) = term_text t ∷ codes "|" ∷ barred_tokens (s ∷ ts)

-- those of a list of terms
abbrev pub terms_tokens : List Term → List (List ℕ)
terms_tokens [] = codes "none" ∷ []
terms_tokens (t ∷ ts) = barred_tokens (t ∷ ts)

-- an equation of such a system
pub record IsEquationOf (count : ℕ) (e : Equation) : Type 0 where
  pub named : IsNamedByPatterns e.name
  pub terms : AreTermsOf count e.terms

-- with this sign
pub record IsSignedEquation (count : ℕ) (sign : Sign) (e : Equation) : Type 0 where
  pub equation : IsEquationOf count e
  pub signed : e.name.sign ≡ sign

-- and with these avoided words
pub record IsAvoidingEquation (count : ℕ) (sign : Sign) (avoid : List (List ℕ)) (e : Equation) : Type 0 where
  pub required : ArePatterns e.name.require
  pub terms : AreTermsOf count e.terms
  pub signed : e.name.sign ≡ sign
  pub avoids : e.name.avoid ≡ avoid

-- the tokens of its required words and terms
abbrev pub made_tokens : Equation → List (List ℕ)
made_tokens e = list_tokens e.name.require ++ codes "=" ∷ terms_tokens e.terms

-- of its words and terms
abbrev pub named_tokens : Equation → List (List ℕ)
named_tokens e = list_tokens e.name.avoid ++ codes "require" ∷ made_tokens e

-- and of the whole equation with its number
abbrev pub equation_tokens : ℕ → Equation → List (List ℕ)
equation_tokens u e = number_text u ∷ sign_text e.name.sign ∷ codes "avoid" ∷ named_tokens e

-- the version of a system and the numbers of its equations and terms
pub record AreCounts (counts : Counts) : Type 0 where
  pub known : (counts.version ≡ 1) ⊎ (counts.version ≡ 2)
  pub some : 1 ≤ counts.equations
  pub few : counts.equations + counts.terms ≤ MAX_CLAIM_SIZE

abbrev pub numerals : Counts → List (List ℕ)
numerals counts = decimal counts.version ∷ decimal counts.equations ∷ decimal counts.terms ∷ []

abbrev pub counts_tokens : Counts → List (List ℕ)
counts_tokens counts =
    codes "system" ∷ decimal counts.version ∷ codes "equations" ∷ decimal counts.equations ∷ codes "terms" ∷ decimal counts.terms ∷ []

abbrev pub counts_line : Counts → List ℕ
counts_line counts = counts_text counts.version counts.equations counts.terms

-- the next line is of this kind
abbrev pub FirstIs : (List ℕ → Type 0) → List (List ℕ) → Type 0
FirstIs P [] = ⊥
FirstIs P (line ∷ lines) = P line

-- the next line was passed where it is of this kind: one line or none, and where none, no such line is left in front
abbrev pub IsPassed : (List ℕ → Type 0) → List (List ℕ) → List (List ℕ) → Type 0
IsPassed P [] left = FirstIs P left → ⊥
IsPassed P (line ∷ []) left = P line
IsPassed P (line ∷ other ∷ lines) left = ⊥

pub record Passes (P : List ℕ → Type 0) (old new : List (List ℕ)) : Type 0 where
  pub passed : List (List ℕ)
  pub cut : old ≡ passed ++ new
  pub is : IsPassed P passed new

-- the next line was taken, which tells this; or none was, where the next tells nothing
abbrev pub TakesLine : {V : Type 0} → (V → List ℕ → Type 0) → List (List ℕ) → List (List ℕ) → Option V → Type 0
TakesLine D old new (Some v) = (line : List ℕ) × (old ≡ line ∷ new) × D v line
TakesLine {V} D old new None = (new ≡ old) × ((v : V) → FirstIs (D v) old → ⊥)

-- a line tells these counts
pub record TellsTheseCounts (counts : Counts) (line : List ℕ) : Type 0 where
  pub are : AreCounts counts
  pub text : HasText line (counts_line counts)

-- a line tells an equation of a system of so many, with this number
pub record TellsEquation (count u : ℕ) (e : Equation) (line : List ℕ) : Type 0 where
  pub equation : IsEquationOf count e
  pub text : HasText line (equation_text u e)

-- the lines of some equations of a system of so many were taken
pub record TakesEquations (count : ℕ) (list : List Equation) (old new : List (List ℕ)) : Type 0 where
  pub taken : List (List ℕ)
  pub cut : old ≡ taken ++ new
  pub lines : AreEquationLines 0 list taken
  pub each : (e : Equation) → In e list → IsEquationOf count e

-- those of all, or as far as a line that isn't that of the next
pub record StopsAtEquation (count : ℕ) (old new : List (List ℕ)) : Type 0 where
  pub list : List Equation
  pub takes : TakesEquations count list old new
  pub few : length list < count
  pub none : (e : Equation) → FirstIs (TellsEquation count (length list) e) new → ⊥

abbrev pub ReadsEquations : ℕ → List (List ℕ) → List (List ℕ) → Result (List Equation) Stop → Type 0
ReadsEquations count old new (Ok list) = TakesEquations count list old new × (length list ≡ count)
ReadsEquations count old new (Err stop.Memory) = Unit {0}
ReadsEquations count old new (Err stop.Here) = StopsAtEquation count old new

-- the version line, and a line of a union
abbrev pub IsVersion : List ℕ → Type 0
IsVersion line = line ≡ codes "permspec 1"

abbrev pub IsUnion : List ℕ → Type 0
IsUnion line = BeginsWith (codes "union ") line

-- lines before the basis line were passed, which doesn't come next
pub record StopsAtBasis (old new : List (List ℕ)) : Type 0 where
  pub version : List (List ℕ)
  pub union : List (List ℕ)
  pub cut : old ≡ version ++ (union ++ new)
  pub is_version : IsPassed IsVersion version (union ++ new)
  pub is_union : IsPassed IsUnion union new
  pub none : (ws : List (List ℕ)) → FirstIs (TellsWords (codes "basis") ws) new → ⊥

-- where no line of required words was taken, none comes next
abbrev pub IsWithoutRequired : Option (List (List ℕ)) → List (List ℕ) → Type 0
IsWithoutRequired None new = (ws : List (List ℕ)) → FirstIs (TellsWords (codes "require") ws) new → ⊥
IsWithoutRequired (Some ws) new = Unit {0}

-- the first lines were taken
pub record TakesFirst (front : Front) (old new : List (List ℕ)) : Type 0 where
  pub taken : List (List ℕ)
  pub cut : old ≡ taken ++ new
  pub lines : AreFirstLines front.basis front.require taken
  pub after : IsWithoutRequired front.require new

abbrev pub ReadsFirst : List (List ℕ) → List (List ℕ) → Result Front Stop → Type 0
ReadsFirst old new (Ok front) = TakesFirst front old new
ReadsFirst old new (Err stop.Memory) = Unit {0}
ReadsFirst old new (Err stop.Here) = StopsAtBasis old new

-- what may stand before a system, and the line of its counts
abbrev pub IsSimplesLine : List ℕ → Type 0
IsSimplesLine line = BeginsWith (codes "simples ") line

abbrev pub IsGapLine : List ℕ → Type 0
IsGapLine line = BeginsWith (codes "gap ") line

-- lines before that of the counts were passed, which doesn't come next
pub record StopsAtCounts (old new : List (List ℕ)) : Type 0 where
  pub simples : List (List ℕ)
  pub gap : List (List ℕ)
  pub cut : old ≡ simples ++ (gap ++ new)
  pub is_simples : IsPassed IsSimplesLine simples (gap ++ new)
  pub is_gap : IsPassed IsGapLine gap new
  pub none : (equations terms : ℕ) → FirstIs (TellsCounts equations terms) new → ⊥

-- the lines before the equations were taken
pub record TakesCounts (count terms : ℕ) (old new : List (List ℕ)) : Type 0 where
  pub simples : List (List ℕ)
  pub gap : List (List ℕ)
  pub counts : List ℕ
  pub cut : old ≡ simples ++ (gap ++ (counts ∷ new))
  pub is_simples : IsOptional IsSimplesLine simples
  pub is_gap : IsOptional IsGapLine gap
  pub are_counts : TellsCounts count terms counts

abbrev pub ReadsCounts : List (List ℕ) → List (List ℕ) → Result Counts Stop → Type 0
ReadsCounts old new (Ok counts) = TakesCounts counts.equations counts.terms old new
ReadsCounts old new (Err stop.Memory) = Unit {0}
ReadsCounts old new (Err stop.Here) = StopsAtCounts old new

-- the lines of a system were taken, and the line after them doesn't end a claim
pub record StopsAtEnd (old new : List (List ℕ)) : Type 0 where
  pub system : System
  pub terms : ℕ
  pub taken : List (List ℕ)
  pub cut : old ≡ taken ++ new
  pub lines : AreSystemLines system terms taken
  pub none : terms ≡ terms_count system.equations → FirstIs (λ line. line ≡ codes "end") new → ⊥

-- the equations of a system were read as far as a line that isn't as demanded in its place
pub record StopsInSystem (old new : List (List ℕ)) : Type 0 where
  pub count : ℕ
  pub terms : ℕ
  pub middle : List (List ℕ)
  pub takes : TakesCounts count terms old middle
  pub stops : StopsAtEquation count middle new

-- a system was read whose line `end` comes next
pub record TakesSystem (system : System) (old : List (List ℕ)) : Type 0 where
  pub taken : List (List ℕ)
  pub others : List (List ℕ)
  pub cut : old ≡ taken ++ codes "end" ∷ others
  pub lines : AreSystemLines system (terms_count system.equations) taken

abbrev pub ReadsSystem : List (List ℕ) → List (List ℕ) → Result System Stop → Type 0
ReadsSystem old new (Ok system) = TakesSystem system old
ReadsSystem old new (Err stop.Memory) = Unit {0}
ReadsSystem old new (Err stop.Here) = StopsAtCounts old new ⊎ (StopsInSystem old new ⊎ StopsAtEnd old new)

-- a claim was read
pub record TakesClaim (claim : Claim) (old : List (List ℕ)) : Type 0 where
  pub taken : List (List ℕ)
  pub others : List (List ℕ)
  pub cut : old ≡ taken ++ codes "end" ∷ others
  pub lines : AreClaimLines claim (terms_count claim.system.equations) taken

-- the lines that were taken are as demanded, and the next line, if there is one, isn't
pub record StopsAtFault (old new : List (List ℕ)) : Type 0 where
  pub taken : List (List ℕ)
  pub cut : old ≡ taken ++ new
  pub demanded : AreAsDemanded taken
  pub fault : (line : List ℕ) (others : List (List ℕ)) → new ≡ line ∷ others → AreAsDemanded (taken ++ line ∷ []) → ⊥
  pub no_end : (line : List ℕ) (others : List (List ℕ)) → new ≡ line ∷ others → IsEnd taken line → ⊥

abbrev pub ReadsClaim : List (List ℕ) → List (List ℕ) → Result Claim Stop → Type 0
ReadsClaim old new (Ok claim) = TakesClaim claim old
ReadsClaim old new (Err stop.Memory) = Unit {0}
ReadsClaim old new (Err stop.Here) = StopsAtFault old new
