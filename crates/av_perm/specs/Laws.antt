-- The laws of words: each test and each list that computes holds exactly what the textbook says.
use Rattle.std.specs.Prelude.{◌≡◌, ℕ, suc, ◌<◌, ◌≤◌, ◌≢◌, ◌↔◌, List, [], ◌∷◌, length, true, Some, None, slice_get, sum_by}
use Rattle.std.specs.Ordering.{nat_cmp}
use Rattle.std.specs.Cmp.Lexicographic.{slice_cmp}
use Rattle.av_perm.specs.Members.{In, Once, IsListOf, Ascending}
use Rattle.av_perm.specs.Word.{is_word, shortlex, words}
use Rattle.av_perm.specs.Contain.{contains, occurrences, first_occurrence}
use Rattle.av_perm.specs.Class.{is_in_class, is_in_class_with, class_at, class_with_at, minimal, maximal, top}
use Rattle.av_perm.specs.Relations.{IsWord, AreWords, OccursAt, Contains, Avoids, InClass, InClassAt, InClassWith, InClassWithAt, SameOrder, pattern_of, IsOneToLength, IsSimple, IsSumIndecomposable, IsSkewIndecomposable, AreBlocks, inflate}
use Rattle.av_perm.specs.Simple.{is_simple, is_sum_indecomposable, is_skew_indecomposable}
use Rattle.av_perm.specs.Gap.{simples, simples_below, IsSettled, IsUnsettled}

-- the test for words tests words
abbrev pub WordLaw : Type 0
WordLaw = (w : List ℕ) → (is_word w ≡ true) ↔ IsWord w

-- the test for containment tests containment
abbrev pub ContainsLaw : Type 0
ContainsLaw = (σ τ : List ℕ) → (contains σ τ ≡ true) ↔ Contains σ τ

-- the list of occurrences holds each of them once, in lexicographic order, and the first occurrence is its first; there is
-- one exactly where the pattern is contained
pub record HasOccurrences (σ τ : List ℕ) : Type 0 where
  pub listed : IsListOf (OccursAt σ τ) (occurrences σ τ)
  pub ascending : Ascending (slice_cmp nat_cmp) (occurrences σ τ)
  pub first : first_occurrence σ τ ≡ slice_get (occurrences σ τ) 0
  pub contained : Contains σ τ ↔ ((p : List ℕ) × OccursAt σ τ p)
  pub found : (p : List ℕ) → first_occurrence σ τ ≡ Some p → OccursAt σ τ p
  pub none_found : (first_occurrence σ τ ≡ None) ↔ Avoids σ τ

-- so of every word and pattern
abbrev pub OccurrencesLaw : Type 0
OccurrencesLaw = (σ τ : List ℕ) → HasOccurrences σ τ

-- the test for a class tests it
abbrev pub ClassLaw : Type 0
ClassLaw = (basis : List (List ℕ)) (w : List ℕ) → (is_in_class basis w ≡ true) ↔ InClass basis w

-- the test for a class with required words tests it, and without required words it is the class
pub record HasClassWith (basis required : List (List ℕ)) (w : List ℕ) : Type 0 where
  pub test : (is_in_class_with basis required w ≡ true) ↔ InClassWith basis required w
  pub bare : InClassWith basis [] w ↔ InClass basis w

-- so of every basis, required words and word
abbrev pub ClassWithLaw : Type 0
ClassWithLaw = (basis required : List (List ℕ)) (w : List ℕ) → HasClassWith basis required w

-- a word of a list that contains no other different word of it
pub record IsMinimalIn (ws : List (List ℕ)) (w : List ℕ) : Type 0 where
  pub member : In w ws
  pub least : (v : List ℕ) → In v ws → Contains w v → v ≡ w

-- a word of a list that is contained in no other different word of it
pub record IsMaximalIn (ws : List (List ℕ)) (w : List ℕ) : Type 0 where
  pub member : In w ws
  pub greatest : (v : List ℕ) → In v ws → Contains v w → v ≡ w

-- the list of minimal words holds each of them once, in shortlex order, and is its own list of minimal words; of words, it
-- makes the same class
pub record HasMinimal (basis : List (List ℕ)) : Type 0 where
  pub listed : IsListOf (IsMinimalIn basis) (minimal basis)
  pub ascending : Ascending shortlex (minimal basis)
  pub again : minimal (minimal basis) ≡ minimal basis
  pub same_class : AreWords basis → (σ : List ℕ) → InClass (minimal basis) σ ↔ InClass basis σ

-- so of every list
abbrev pub MinimalLaw : Type 0
MinimalLaw = (basis : List (List ℕ)) → HasMinimal basis

-- the same for maximal words: of words, what contains the maximal ones contains all
pub record HasMaximal (required : List (List ℕ)) : Type 0 where
  pub listed : IsListOf (IsMaximalIn required) (maximal required)
  pub ascending : Ascending shortlex (maximal required)
  pub again : maximal (maximal required) ≡ maximal required
  pub same_words : AreWords required → (σ : List ℕ) → ((τ : List ℕ) → In τ (maximal required) → Contains σ τ) ↔ ((τ : List ℕ) → In τ required → Contains σ τ)

-- so of every list
abbrev pub MaximalLaw : Type 0
MaximalLaw = (required : List (List ℕ)) → HasMaximal required

-- a word of a list other than the word 1 that is contained in no other different word of it
pub record IsTopIn (ws : List (List ℕ)) (w : List ℕ) : Type 0 where
  pub member : In w ws
  pub other : w ≢ 1 ∷ []
  pub greatest : (v : List ℕ) → In v ws → Contains v w → v ≡ w

-- the list of these holds each of them once, in shortlex order, and is its own; of words, they require of a word what all require
pub record HasTop (required : List (List ℕ)) : Type 0 where
  pub listed : IsListOf (IsTopIn required) (top required)
  pub ascending : Ascending shortlex (top required)
  pub again : top (top required) ≡ top required
  pub same_class : AreWords required → (basis : List (List ℕ)) (σ : List ℕ) → InClassWith basis (top required) σ ↔ InClassWith basis required σ

-- so of every list
abbrev pub TopLaw : Type 0
TopLaw = (required : List (List ℕ)) → HasTop required

-- a word of length n
pub record IsWordOf (n : ℕ) (w : List ℕ) : Type 0 where
  pub word : IsWord w
  pub long : length w ≡ n

-- the list of the words of a length, which is at least 1, holds each of them once, in lexicographic order
pub record HasWords (n : ℕ) : Type 0 where
  pub listed : IsListOf (IsWordOf n) (words n)
  pub ascending : Ascending (slice_cmp nat_cmp) (words n)

-- so of every length of at least 1
abbrev pub WordsLaw : Type 0
WordsLaw = (n : ℕ) → 1 ≤ n → HasWords n

-- the same for the words of a class
pub record HasClassAt (basis : List (List ℕ)) (n : ℕ) : Type 0 where
  pub listed : IsListOf (InClassAt basis n) (class_at basis n)
  pub ascending : Ascending (slice_cmp nat_cmp) (class_at basis n)

-- so of every class and length of at least 1
abbrev pub ClassAtLaw : Type 0
ClassAtLaw = (basis : List (List ℕ)) (n : ℕ) → 1 ≤ n → HasClassAt basis n

-- the same for the words of a class with required words
pub record HasClassWithAt (basis required : List (List ℕ)) (n : ℕ) : Type 0 where
  pub listed : IsListOf (InClassWithAt basis required n) (class_with_at basis required n)
  pub ascending : Ascending (slice_cmp nat_cmp) (class_with_at basis required n)

-- so of every class, required words and length of at least 1
abbrev pub ClassWithAtLaw : Type 0
ClassWithAtLaw = (basis required : List (List ℕ)) (n : ℕ) → 1 ≤ n → HasClassWithAt basis required n

-- `π` is the word in the same relative order as the numbers
pub record IsPatternOf (xs π : List ℕ) : Type 0 where
  pub word : IsWord π
  pub order : SameOrder π xs

-- one or more different numbers have a pattern, and no other; a word is its own pattern; and whether a word contains a list
-- of numbers depends on relative order alone
pub record PatternLaw : Type 0 where
  pub pattern : (xs : List ℕ) → 1 ≤ length xs → Once xs → IsPatternOf xs (pattern_of xs)
  pub only : (xs π : List ℕ) → IsPatternOf xs π → π ≡ pattern_of xs
  pub own : (w : List ℕ) → IsWord w → pattern_of w ≡ w
  pub contained : (σ τ τ' : List ℕ) → SameOrder τ τ' → Contains σ τ ↔ Contains σ τ'
  pub containing : (σ σ' τ : List ℕ) → SameOrder σ σ' → Contains σ τ ↔ Contains σ' τ
  pub pattern_contained : (σ xs : List ℕ) → Contains σ (pattern_of xs) ↔ Contains σ xs

-- the test for simple words tests them
abbrev pub SimpleLaw : Type 0
SimpleLaw = (σ : List ℕ) → IsOneToLength σ → (is_simple σ ≡ true) ↔ IsSimple σ

-- the test for sum-indecomposable words tests them
abbrev pub SumLaw : Type 0
SumLaw = (σ : List ℕ) → IsOneToLength σ → (is_sum_indecomposable σ ≡ true) ↔ IsSumIndecomposable σ

-- the test for skew-indecomposable words tests them
abbrev pub SkewLaw : Type 0
SkewLaw = (σ : List ℕ) → IsOneToLength σ → (is_skew_indecomposable σ ≡ true) ↔ IsSkewIndecomposable σ

-- a simple word of the class, of length m
pub record IsSimpleOf (basis : List (List ℕ)) (m : ℕ) (w : List ℕ) : Type 0 where
  pub simple : IsSimple w
  pub member : InClassAt basis m w

-- the list of the simple words of a class of a length holds each of them once, in lexicographic order
pub record HasSimples (basis : List (List ℕ)) (m : ℕ) : Type 0 where
  pub listed : IsListOf (IsSimpleOf basis m) (simples basis m)
  pub ascending : Ascending (slice_cmp nat_cmp) (simples basis m)

-- so of every class and length
abbrev pub SimplesLaw : Type 0
SimplesLaw = (basis : List (List ℕ)) (m : ℕ) → HasSimples basis m

-- a simple word of the class, of length below g
pub record IsSimpleBelow (basis : List (List ℕ)) (g : ℕ) (w : List ℕ) : Type 0 where
  pub simple : IsSimple w
  pub member : InClass basis w
  pub short : length w < g

-- the list of the simple words of a class of length below g holds each of them once, in shortlex order
pub record HasSimplesBelow (basis : List (List ℕ)) (g : ℕ) : Type 0 where
  pub listed : IsListOf (IsSimpleBelow basis g) (simples_below basis g)
  pub ascending : Ascending shortlex (simples_below basis g)

-- so of every class and length
abbrev pub SimplesBelowLaw : Type 0
SimplesBelowLaw = (basis : List (List ℕ)) (g : ℕ) → HasSimplesBelow basis g

-- g is at least 4, and the class has no simple word of length g or g + 1
pub record IsGap (basis : List (List ℕ)) (g : ℕ) : Type 0 where
  pub high : 4 ≤ g
  pub none : (w : List ℕ) → IsSimpleOf basis g w → ⊥
  pub none_next : (w : List ℕ) → IsSimpleOf basis (suc g) w → ⊥

-- g is the least of them, and g + 1 is at most the limit
pub record IsLeastGap (basis : List (List ℕ)) (limit g : ℕ) : Type 0 where
  pub gap : IsGap basis g
  pub within : suc g ≤ limit
  pub least : (h : ℕ) → IsGap basis h → g ≤ h

-- a class is settled at a limit with its least gap, and unsettled exactly where the limit lets none pass
pub record GapLaw : Type 0 where
  pub settled : (basis : List (List ℕ)) (limit g : ℕ) → IsSettled basis limit g ↔ IsLeastGap basis limit g
  pub unsettled : (basis : List (List ℕ)) (limit : ℕ) → IsUnsettled basis limit ↔ ((g : ℕ) → IsGap basis g → suc g ≤ limit → ⊥)

-- the inflation of a word by words is a word, as long as the blocks together
pub record InflationLaw : Type 0 where
  pub word : (π : List ℕ) (αs : List (List ℕ)) → IsWord π → AreBlocks π αs → IsWord (inflate π αs)
  pub long : (π : List ℕ) (αs : List (List ℕ)) → length αs ≡ length π → length (inflate π αs) ≡ sum_by length αs
