-- What holds of each line and of each script that is read.
use Rattle.std.specs.Prelude.{ℕ, ◌≤◌, List, [], length, All, unwrap_or}
use Rattle.av_perm.specs.declared.limits.TheConstants.{MAX_PATTERN_LENGTH}
use Rattle.av_perm.specs.Relations.{IsWord}
use Rattle.av_union.specs.Union.{AreShortTogether}
use Rattle.av_text.specs.declared.limits.TheConstants.{MAX_PATTERNS, MAX_FORMAT}
use Rattle.av_text.specs.declared.says.Says.{Says}
use Rattle.av_text.specs.declared.says.Says.TheVariants.{Asks}
use Rattle.av_text.specs.declared.script.Script.{Script}
use Rattle.av_text.specs.Queries.{IsInRange}

-- the query of a line is in range
abbrev pub AsksInRange : Says → Type 0
AsksInRange (Asks q) = IsInRange q
AsksInRange _ = Unit {0}

-- a word that may stand in the basis line, in the union line, or in the line of required words
pub record IsPattern (w : List ℕ) : Type 0 where
  pub word : IsWord w
  pub short : length w ≤ MAX_PATTERN_LENGTH

-- the words of such a line
pub record IsPatternLine (ws : List (List ℕ)) : Type 0 where
  pub few : length ws ≤ MAX_PATTERNS
  pub words : All IsPattern ws

-- the words of the union line of a script: none where it has no such line
abbrev pub united : Script → List (List ℕ)
united script = unwrap_or script.union_with []

-- the required words of a script: none where it has no line of them
abbrev pub required : Script → List (List ℕ)
required script = unwrap_or script.require []

-- a format
pub record IsFormat (n : ℕ) : Type 0 where
  pub least : 1 ≤ n
  pub most : n ≤ MAX_FORMAT

-- the basis, the words of the union line, the required words and the format keep the limits, and no word of the basis and of the
-- union line are too long together
pub record KeepsLimits (script : Script) : Type 0 where
  pub basis : IsPatternLine script.basis
  pub second : IsPatternLine (united script)
  pub short : AreShortTogether script.basis (united script)
  pub required : IsPatternLine (required script)
  pub format : IsFormat script.format
