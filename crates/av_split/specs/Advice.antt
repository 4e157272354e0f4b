-- What is known of a box of a root and a name: no list of blocks in it has an inflation that avoids the avoided words and
-- contains the required ones, each has, or a question tells more.
use Rattle.std.specs.Prelude.{◌≡◌, ℕ, ◌<◌, List, length, Some}
use Rattle.av_perm.specs.Relations.{IsWord, AreWords, AreBlocks, inflate}
use Rattle.av_sys.specs.Names.{Meets}
use Rattle.av_name.specs.declared.constraints.Known.TheVariants.{Inside, Outside, Open}
use Rattle.av_split.specs.Split.{demands_known, next_question}
use Rattle.av_split.specs.Boxes.{Question, Box, word_rules, demands}
use Rattle.av_split.specs.Laws.{LiesIn}

-- of any box
pub record Advises (π : List ℕ) (A R : List (List ℕ)) (b : Box) : Type 0 where
  pub broken : demands_known (word_rules.known b) (demands π A R) ≡ Outside → (αs : List (List ℕ)) → AreBlocks π αs → LiesIn π αs b → Meets A R (inflate π αs) → ⊥
  pub done : demands_known (word_rules.known b) (demands π A R) ≡ Inside → (αs : List (List ℕ)) → AreBlocks π αs → LiesIn π αs b → Meets A R (inflate π αs)
  pub asks : demands_known (word_rules.known b) (demands π A R) ≡ Open
      → (q : Question) × (next_question (word_rules.known b) (demands π A R) ≡ Some q) × (word_rules.known b q ≡ Open) × (q.child < length π) × IsWord q.word

-- so of every root and name
abbrev pub AdviceLaw : Type 0
AdviceLaw = (π : List ℕ) (A R : List (List ℕ)) (b : Box) → IsWord π → AreWords A → AreWords R → Advises π A R b
