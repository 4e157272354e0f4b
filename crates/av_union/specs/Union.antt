-- Words that two words cover, and the basis of the union of two classes. Places are counted from 0.
use Rattle.std.specs.Prelude.{◌≡◌, ℕ, ◌+◌, ◌<◌, ◌≤◌, ◌⊎◌, Bool, ◌&&◌, List, [], ◌∷◌, length, filter, flat_map, max}
use Rattle.std.specs.List.{list_any}
use Rattle.av_perm.specs.Members.{In}
use Rattle.av_perm.specs.Lists.{counting}
use Rattle.av_perm.specs.Word.{words}
use Rattle.av_perm.specs.Contain.{contains}
use Rattle.av_perm.specs.Class.{minimal}
use Rattle.av_perm.specs.Relations.{IsWord, IsOccurrence, Contains}
use Rattle.av_union.specs.declared.limits.TheConstants.{MAX_OVERLAY_LENGTH}

-- an occurrence of `σ` and one of `τ` in `w` have together all places of `w`
pub record IsCover (σ τ w p q : List ℕ) : Type 0 where
  pub first : IsOccurrence w σ p
  pub second : IsOccurrence w τ q
  pub all : (s : ℕ) → s < length w → In s p ⊎ In s q

-- an overlay of `σ` and `τ`: a word that the two cover
pub record IsCovered (σ τ w : List ℕ) : Type 0 where
  pub word : IsWord w
  pub cover : (p : List ℕ) × ((q : List ℕ) × IsCover σ τ w p q)

-- `w` contains some word of the list
abbrev pub ContainsSome : List ℕ → List (List ℕ) → Type 0
ContainsSome w ws = (v : List ℕ) × In v ws × Contains w v

-- a word that contains a word of each of two lists
pub record InBoth (first second : List (List ℕ)) (w : List ℕ) : Type 0 where
  pub word : IsWord w
  pub has_first : ContainsSome w first
  pub has_second : ContainsSome w second

-- one that contains no other different such word
pub record IsMinimalInBoth (first second : List (List ℕ)) (w : List ℕ) : Type 0 where
  pub both : InBoth first second w
  pub least : (v : List ℕ) → InBoth first second v → Contains w v → v ≡ w

-- the test whether a word contains a word of each list
abbrev pub is_in_both : List (List ℕ) → List (List ℕ) → List ℕ → Bool
is_in_both first second w = list_any (λ v. contains w v) first && list_any (λ v. contains w v) second

-- the greatest length of a word of a list, and 0 where there is no word
abbrev pub longest : List (List ℕ) → ℕ
longest [] = 0
longest (w ∷ ws) = max (length w) (longest ws)

-- the words of length 1 to n
abbrev pub words_up_to : ℕ → List (List ℕ)
words_up_to n = flat_map words (counting 1 n)

-- the basis of the union of two classes: of the words that contain a word of each list, those that contain no other different
-- such word, in shortlex order. None of them is longer than the longest words of the two lists together
unfoldable pub union : List (List ℕ) → List (List ℕ) → List (List ℕ)
union first second = minimal (filter (is_in_both first second) (words_up_to (longest first + longest second)))

-- each word of the one list and each of the other have together at most as many entries as an overlay
abbrev pub AreShortTogether : List (List ℕ) → List (List ℕ) → Type 0
AreShortTogether first second = (f g : List ℕ) → In f first → In g second → length f + length g ≤ MAX_OVERLAY_LENGTH

-- each word of the list has fewer than n entries
abbrev pub AreBelow : ℕ → List (List ℕ) → Type 0
AreBelow n ws = (w : List ℕ) → In w ws → length w < n
