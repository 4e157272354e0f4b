-- What the search for the basis of the union keeps. The first list is gone through word by word: `early` are its words that
-- were gone through before.
use Rattle.std.specs.Prelude.{ℕ, ◌<◌, List, remove}
use Rattle.av_perm.specs.Members.{In, Ascending}
use Rattle.av_perm.specs.Word.{shortlex}
use Rattle.av_perm.specs.Relations.{Avoids, pattern_of}
use Rattle.av_union.specs.declared.choices.Choice.{Choice}
use Rattle.av_union.specs.Union.{ContainsSome, IsMinimalInBoth}
use Rattle.av_union.specs.Choices.{word_after}
use Rattle.av_union.specs.Growth.{AreBefore, GrowsTo, places_after}

-- the pattern of the word's entries without the one at place s
abbrev pub without : List ℕ → ℕ → List ℕ
without w s = pattern_of (remove w s)

-- a word of the basis that contains no earlier word
pub record IsSought (early first second : List (List ℕ)) (W : List ℕ) : Type 0 where
  pub minimal : IsMinimalInBoth first second W
  pub later : (v : List ℕ) → In v early → Avoids W v

-- no such word grows from the partial overlay
abbrev pub GrowsNothing : List (List ℕ) → List (List ℕ) → List (List ℕ) → List ℕ → List ℕ → Type 0
GrowsNothing early first second w q = (W g : List ℕ) → IsSought early first second W → In g second → GrowsTo g w q W → ⊥

-- some place that comes before the last one chosen is not chosen, and a word of the first list is found without it
pub record HasSpare (first : List (List ℕ)) (w q : List ℕ) : Type 0 where
  pub spare : (x : ℕ) × (y : ℕ) × (x < y) × In y q × (In x q → ⊥) × ContainsSome (without w x) first

-- the words kept are words of the basis, in shortlex order
pub record AreMinimal (first second kept : List (List ℕ)) : Type 0 where
  pub ascending : Ascending shortlex kept
  pub minimal : (v : List ℕ) → In v kept → IsMinimalInBoth first second v

-- nothing but words of the basis was added to those kept
pub record Adds (first second old new : List (List ℕ)) : Type 0 where
  pub kept : (v : List ℕ) → In v old → In v new
  pub minimal : AreMinimal first second old → AreMinimal first second new

-- the word was added if it is one of the basis
pub record Keeps (first second : List (List ℕ)) (w : List ℕ) (old new : List (List ℕ)) : Type 0 where
  pub adds : Adds first second old new
  pub whole : IsMinimalInBoth first second w → In w new

-- each word that is sought and grows from the partial overlay is kept
abbrev pub HasGrown : List (List ℕ) → List (List ℕ) → List (List ℕ) → List ℕ → List ℕ → List (List ℕ) → Type 0
HasGrown early first second w q kept = (W g : List ℕ) → IsSought early first second W → In g second → GrowsTo g w q W → In W kept

-- each that grows from it by a choice whose place comes after the others
abbrev pub HasGrownBy : List (List ℕ) → List (List ℕ) → List (List ℕ) → List ℕ → List ℕ → Choice → List (List ℕ) → Type 0
HasGrownBy early first second w q c kept = AreBefore q c → HasGrown early first second (word_after w c) (places_after q c) kept

-- what a partial overlay adds
pub record Gathers (early first second : List (List ℕ)) (w q : List ℕ) (old new : List (List ℕ)) : Type 0 where
  pub adds : Adds first second old new
  pub whole : HasGrown early first second w q new

-- what it adds by a choice
pub record GathersBy (early first second : List (List ℕ)) (w q : List ℕ) (c : Choice) (old new : List (List ℕ)) : Type 0 where
  pub adds : Adds first second old new
  pub whole : HasGrownBy early first second w q c new
