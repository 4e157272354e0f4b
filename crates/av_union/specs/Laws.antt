-- The laws of overlays and of the union of two classes.
use Rattle.std.specs.Prelude.{ℕ, ◌+◌, ◌≤◌, ◌⊎◌, ◌↔◌, List, length}
use Rattle.av_perm.specs.Members.{In, IsListOf, Ascending}
use Rattle.av_perm.specs.Word.{shortlex}
use Rattle.av_perm.specs.Relations.{IsWord, AreWords, Contains, Avoids, InClass, InClassAt}
use Rattle.av_union.specs.Union.{IsCovered, IsMinimalInBoth, union}
use Rattle.av_union.specs.Growth.{overlays}

-- the list of the overlays of a word and a pattern holds exactly the words that the two cover
abbrev pub OverlaysLaw : Type 0
OverlaysLaw = (σ τ w : List ℕ) → IsWord σ → In w (overlays σ τ) ↔ IsCovered σ τ w

-- `w` contains a word of each list that have together at least as many entries as it
pub record IsSpanned (first second : List (List ℕ)) (w : List ℕ) : Type 0 where
  pub spans : (f : List ℕ) × (g : List ℕ) × In f first × In g second × Contains w f × Contains w g × (length w ≤ length f + length g)

-- `w` avoids each word of the list
abbrev pub AvoidsEach : List ℕ → List (List ℕ) → Type 0
AvoidsEach w ws = (v : List ℕ) → In v ws → Avoids w v

-- the basis of the union of two classes holds exactly the minimal words that contain a word of each list, each once, in
-- shortlex order. Each of them is covered by a word of each list, and spanned. The words that avoid it are those that avoid the
-- one list or avoid the other, so its class is the union of the two classes, of all lengths and of each
pub record HasUnion (first second : List (List ℕ)) : Type 0 where
  pub listed : IsListOf (IsMinimalInBoth first second) (union first second)
  pub ascending : Ascending shortlex (union first second)
  pub covered : (w : List ℕ) → In w (union first second) → (f : List ℕ) × (g : List ℕ) × In f first × In g second × IsCovered f g w
  pub spanned : (w : List ℕ) → In w (union first second) → IsSpanned first second w
  pub avoided : (w : List ℕ) → IsWord w → AvoidsEach w (union first second) ↔ (AvoidsEach w first ⊎ AvoidsEach w second)
  pub class : (w : List ℕ) → InClass (union first second) w ↔ (InClass first w ⊎ InClass second w)
  pub class_at : (n : ℕ) (w : List ℕ) → InClassAt (union first second) n w ↔ (InClassAt first n w ⊎ InClassAt second n w)

-- so of every two lists of words
abbrev pub UnionLaw : Type 0
UnionLaw = (first second : List (List ℕ)) → AreWords first → AreWords second → HasUnion first second
