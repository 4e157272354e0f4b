-- The laws of ranks.
use Rattle.std.specs.Prelude.{◌≡◌, ◌↔◌, ℕ, ◌<◌, ◌≤◌, ◌^◌, List, length, slice_get, Option, Some, None}
use Rattle.av_perm.specs.Relations.{InClassWith, InClassWithAt}
use Rattle.av_perm.specs.Class.{class_with_at}
use Rattle.av_sys.specs.declared.terms.System.{System}
use Rattle.av_sys.specs.Terms.{IsWellFormed}
use Rattle.av_sys.specs.Exact.{Exact, NamedUpTo}
use Rattle.av_sys.specs.TreeLists.{members}
use Rattle.av_tree.specs.declared.ranking.Ranked.{Ranked}
use Rattle.av_tree.specs.declared.ranking.Ranked.TheVariants.{At, Big, Stranger}
use Rattle.av_tree.specs.Ranks.{IsRanked}

-- below 2 ^ 128 ranking and unranking are inverse: the answer for a word is a place exactly where the word is the value of the
-- tree at this place, of the list for the word's length
abbrev pub InverseLaw : Type 0
InverseLaw = (S : System) (w : List ℕ) (answer : Ranked) (r : ℕ) → IsWellFormed S → NamedUpTo S (length w) → IsRanked S w answer → r < 2 ^ 128
    → (answer ≡ At r) ↔ (slice_get (members S (length w)) r ≡ Some w)

-- what is unranked is a word of the class of this length, and there is none exactly where the class has no more than r of them
pub record IsUnranked (basis required : List (List ℕ)) (n r : ℕ) (answer : Option (List ℕ)) : Type 0 where
  pub member : (w : List ℕ) → answer ≡ Some w → InClassWithAt basis required n w
  pub past : (answer ≡ None) ↔ (length (class_with_at basis required n) ≤ r)

-- so of a system that describes the class
abbrev pub UnrankLaw : Type 0
UnrankLaw = (S : System) (basis required : List (List ℕ)) (n r : ℕ) → IsWellFormed S → Exact S basis required → 1 ≤ n → IsUnranked basis required n r (slice_get (members S n) r)

-- the word is one of the class, and stands at place r of the list of its words of this length, and at no other
pub record StandsAt (S : System) (basis required : List (List ℕ)) (w : List ℕ) (r : ℕ) : Type 0 where
  pub member : InClassWith basis required w
  pub below : r < length (class_with_at basis required (length w))
  pub listed : slice_get (members S (length w)) r ≡ Some w
  pub only : (s : ℕ) → slice_get (members S (length w)) s ≡ Some w → s ≡ r

-- the answer for a word: its place where that is below 2 ^ 128, that its place is 2 ^ 128 or more, or that it isn't of the class
abbrev pub IsRankIn : System → List (List ℕ) → List (List ℕ) → List ℕ → Ranked → Type 0
IsRankIn S basis required w (At r) = (r < 2 ^ 128) × StandsAt S basis required w r
IsRankIn S basis required w Big = (r : ℕ) × (2 ^ 128 ≤ r) × StandsAt S basis required w r
IsRankIn S basis required w Stranger = InClassWith basis required w → ⊥

-- so of a system that describes the class
abbrev pub RankLaw : Type 0
RankLaw = (S : System) (basis required : List (List ℕ)) (w : List ℕ) (answer : Ranked) → IsWellFormed S → Exact S basis required → IsRanked S w answer → IsRankIn S basis required w answer

-- the strangers are the words that aren't of the class
abbrev pub StrangerLaw : Type 0
StrangerLaw = (S : System) (basis required : List (List ℕ)) (w : List ℕ) (answer : Ranked) → IsWellFormed S → Exact S basis required → IsRanked S w answer
    → (answer ≡ Stranger) ↔ (InClassWith basis required w → ⊥)

-- different words of one length have different places
abbrev pub PlacesLaw : Type 0
PlacesLaw = (S : System) (v w : List ℕ) (r : ℕ) → IsRanked S v (At r) → IsRanked S w (At r) → length v ≡ length w → v ≡ w
