-- The laws of claims.
use Rattle.std.specs.Prelude.{◌≡◌, ◌⊎◌, ◌≢◌, ℕ, ◌+◌, ◌≤◌, Bool, List, [], length, Option, Some, None, codes, if◌then◌else◌}
use Rattle.av_perm.specs.Members.{In}
use Rattle.av_sys.specs.declared.terms.Equation.{Equation}
use Rattle.av_sys.specs.Terms.{IsWellFormed}
use Rattle.av_text.specs.declared.kind.Kind.{Kind}
use Rattle.av_text.specs.declared.limits.TheConstants.{MAX_PATTERNS}
use Rattle.av_print.specs.Text.{◌⊹◌, words_text}
use Rattle.av_print.specs.Systems.{terms_count, system_text}
use Rattle.av_check.specs.declared.claim.Claim.{Claim}
use Rattle.av_check.specs.declared.limits.TheConstants.{MAX_CLAIM_BYTES, MAX_CLAIM_SIZE}
use Rattle.av_check.specs.Claims.{ArePatterns, IsNamedByPatterns, IsClaim, IsRefused}
use Rattle.av_check.specs.Verdicts.{required_of}

-- the lists have at most 64 words, the system is well formed and of at most 65,536 equations and terms, and all words are words of
-- at most 12 entries
pub record IsWithinLimits (claim : Claim) : Type 0 where
  pub few_words : length claim.basis ≤ MAX_PATTERNS
  pub few_required : length (required_of claim) ≤ MAX_PATTERNS
  pub basis_words : ArePatterns claim.basis
  pub words_required : ArePatterns (required_of claim)
  pub formed : IsWellFormed claim.system
  pub named : (e : Equation) → In e claim.system.equations → IsNamedByPatterns e.name
  pub small : length claim.system.equations + terms_count claim.system.equations ≤ MAX_CLAIM_SIZE

-- a text is a claim in one way, or has one fault: never both, and never neither
pub record ClaimLaw : Type 0 where
  pub one : (bytes : List ℕ) (c d : Claim) → IsClaim bytes c → IsClaim bytes d → c ≡ d
  pub apart : (bytes : List ℕ) (claim : Claim) (line : ℕ) (kind : Kind) → IsClaim bytes claim → IsRefused bytes line kind → ⊥
  pub one_fault : (bytes : List ℕ) (l m : ℕ) (j k : Kind) → IsRefused bytes l j → IsRefused bytes m k → (l ≡ m) × (j ≡ k)
  pub some : (bytes : List ℕ) → ((claim : Claim) → IsClaim bytes claim → ⊥) → ((line : ℕ) (kind : Kind) → IsRefused bytes line kind → ⊥) → ⊥
  pub limits : (bytes : List ℕ) (claim : Claim) → IsClaim bytes claim → IsWithinLimits claim

-- what a text shows beside the claim: the version line, and what follows in the lines that are passed over
pub record Shown : Type 0 where
  pub version : Bool
  pub union : Option (List ℕ)
  pub simples : Option (List ℕ)
  pub gap : Option (List ℕ)

-- these lines
abbrev pub version_text : Bool → List ℕ
version_text b = if b then codes "permspec 1\n" else []

abbrev pub passed_text : List ℕ → Option (List ℕ) → List ℕ
passed_text front None = []
passed_text front (Some rest) = front ⊹ rest ⊹ codes "\n"

-- the line of the required words
abbrev pub required_text : Option (List (List ℕ)) → List ℕ
required_text None = []
required_text (Some words) = codes "require " ⊹ words_text words ⊹ codes "\n"

-- the text of a claim with the system in a version
unfoldable pub text_of_claim : ℕ → Shown → Claim → List ℕ
text_of_claim version shown claim =
    version_text shown.version ⊹ passed_text (codes "union ") shown.union ⊹ codes "basis " ⊹ words_text claim.basis ⊹ codes "\n" ⊹ required_text claim.require
    ⊹ passed_text (codes "simples ") shown.simples ⊹ passed_text (codes "gap ") shown.gap ⊹ system_text version claim.system

-- what follows in a line, if it is there, holds no line feed
abbrev pub IsUnbroken : Option (List ℕ) → Type 0
IsUnbroken None = Unit {0}
IsUnbroken (Some rest) = (b : ℕ) → In b rest → b ≢ 10

pub record IsShown (shown : Shown) : Type 0 where
  pub in_union : IsUnbroken shown.union
  pub in_simples : IsUnbroken shown.simples
  pub in_gap : IsUnbroken shown.gap

-- such a text, whatever follows, is that claim
abbrev pub ClaimTextLaw : Type 0
ClaimTextLaw = (version : ℕ) (shown : Shown) (claim : Claim) (others : List ℕ) → (version ≡ 1) ⊎ (version ≡ 2) → IsShown shown → IsWithinLimits claim
    → length (text_of_claim version shown claim ⊹ others) ≤ MAX_CLAIM_BYTES → IsClaim (text_of_claim version shown claim ⊹ others) claim
