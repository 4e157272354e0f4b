-- Classes of words, given by the words that they avoid, and those with required words: tests and lists.
use Rattle.std.specs.Prelude.{ℕ, Bool, not, ◌&&◌, ◌||◌, List, [], ◌∷◌, filter}
use Rattle.std.specs.List.{list_all}
use Rattle.std.specs.declared.cmp.Ordering.{Ordering}
use Rattle.std.specs.declared.cmp.Ordering.TheVariants.{Less, Equal, Greater}
use Rattle.av_perm.specs.Lists.{same}
use Rattle.av_perm.specs.Word.{is_word, shortlex, words}
use Rattle.av_perm.specs.Contain.{contains}

-- the word contains none of the list
abbrev pub avoids_all : List (List ℕ) → List ℕ → Bool
avoids_all basis w = list_all (λ b. not (contains w b)) basis

-- the word contains each of the list
abbrev pub contains_all : List (List ℕ) → List ℕ → Bool
contains_all required w = list_all (λ r. contains w r) required

-- the word is one of the class of words that avoid the list
abbrev pub is_in_class : List (List ℕ) → List ℕ → Bool
is_in_class basis w = is_word w && avoids_all basis w

-- the words of length n of the class, in lexicographic order, for n of at least 1
abbrev pub class_at : List (List ℕ) → ℕ → List (List ℕ)
class_at basis n = filter (avoids_all basis) (words n)

-- the word is one of the class that contains each required word
abbrev pub is_in_class_with : List (List ℕ) → List (List ℕ) → List ℕ → Bool
is_in_class_with basis required w = is_in_class basis w && contains_all required w

-- the words of length n of the class with required words, in lexicographic order
abbrev pub class_with_at : List (List ℕ) → List (List ℕ) → ℕ → List (List ℕ)
class_with_at basis required n = filter (contains_all required) (class_at basis n)

-- by how w compares with the head v of a list, where `more` is w put into its tail
abbrev pub insert_by : Ordering → List ℕ → List ℕ → List (List ℕ) → List (List ℕ) → List (List ℕ)
insert_by Less w v vs more = w ∷ v ∷ vs
insert_by Equal w v vs more = v ∷ vs
insert_by Greater w v vs more = v ∷ more

-- w put at its place in a list in shortlex order; a word that stands there already stays single
abbrev pub insert_word : List ℕ → List (List ℕ) → List (List ℕ)
insert_word w [] = w ∷ []
insert_word w (v ∷ vs) = insert_by (shortlex w v) w v vs (insert_word w vs)

-- the words of a list, each once, in shortlex order
abbrev pub in_shortlex : List (List ℕ) → List (List ℕ)
in_shortlex [] = []
in_shortlex (w ∷ ws) = insert_word w (in_shortlex ws)

-- of a list of words: those that contain no other different word of it, each once, in shortlex order
abbrev pub minimal : List (List ℕ) → List (List ℕ)
minimal ws = in_shortlex (filter (λ w. list_all (λ v. same v w || not (contains w v)) ws) ws)

-- of a list of words: those that no other different word of it contains, each once, in shortlex order
abbrev pub maximal : List (List ℕ) → List (List ℕ)
maximal ws = in_shortlex (filter (λ w. list_all (λ v. same v w || not (contains v w)) ws) ws)

-- of a list of words: those other than the word 1 that no other different word of it contains, each once, in shortlex order;
-- every word contains the word 1
abbrev pub top : List (List ℕ) → List (List ℕ)
top ws = filter (λ w. not (same (1 ∷ []) w)) (maximal ws)
