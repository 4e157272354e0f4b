-- The tests for a class test the class, and minimal words make the same class.
use Rattle.std.proofs.Common.{◌≡◌, ℕ, ◌↔◌, List, length, true, not, arith}
use Rattle.std.proofs.lemmas.Bool.{and_parts, and_from}
use Rattle.av_perm.specs.Word.{is_word}
use Rattle.av_perm.specs.Contain.{contains}
use Rattle.av_perm.specs.Class.{avoids_all, contains_all, is_in_class, is_in_class_with, minimal, maximal}
use Rattle.av_perm.specs.Relations.{IsWord, AreWords, Contains, Avoids, InClass, InClassWith}
use Rattle.av_perm.specs.Laws.{HasClassWith, HasMinimal, HasMaximal}
use Rattle.av_perm.proofs.Membership.{Each}
use Rattle.av_perm.proofs.Tests.{all_from, all_to, not_from, not_to}
use Rattle.av_perm.proofs.Occurrences.{contains_from, contains_to}
use Rattle.av_perm.proofs.Containment.{contains_trans}
use Rattle.av_perm.proofs.WordTests.{word_from, word_to}
use Rattle.av_perm.proofs.MinimalWords.{words_each, has_minimal, has_maximal, minimal_is, minimal_list, minimal_ascending, minimal_again, maximal_is, maximal_list, maximal_ascending, maximal_again}

-- the word avoids each of a list
pub avoids_from : (B : List (List ℕ)) (σ : List ℕ) → avoids_all B σ ≡ true → Each (Avoids σ) B
avoids_from B σ e b i c = not_from (contains σ b) (all_from (λ b. not (contains σ b)) B e b i) (contains_to σ b c)

-- what avoids each of a list passes the test
pub avoids_to : (B : List (List ℕ)) (σ : List ℕ) → Each (Avoids σ) B → avoids_all B σ ≡ true
avoids_to B σ h = all_to (λ b. not (contains σ b)) B (λ b i. not_to (contains σ b) (λ e. h b i (contains_from σ b e)))

-- the word contains each of a list
pub requires_from : (R : List (List ℕ)) (σ : List ℕ) → contains_all R σ ≡ true → Each (Contains σ) R
requires_from R σ e r i = contains_from σ r (all_from (λ r. contains σ r) R e r i)

-- what contains each of a list passes the test
pub requires_to : (R : List (List ℕ)) (σ : List ℕ) → Each (Contains σ) R → contains_all R σ ≡ true
requires_to R σ h = all_to (λ r. contains σ r) R (λ r i. contains_to σ r (h r i))

-- a word of the class
pub class_from : (B : List (List ℕ)) (σ : List ℕ) → is_in_class B σ ≡ true → InClass B σ
class_from B σ e = let a = and_parts (is_word σ) (avoids_all B σ) e in record { word = word_from σ a.0; avoids = avoids_from B σ a.1 }

-- a word of the class passes its test
pub class_to : (B : List (List ℕ)) (σ : List ℕ) → InClass B σ → is_in_class B σ ≡ true
class_to B σ c = and_from (is_word σ) (avoids_all B σ) (word_to σ c.word) (avoids_to B σ c.avoids)

-- a word of the class with required words
pub class_with_from : (B R : List (List ℕ)) (σ : List ℕ) → is_in_class_with B R σ ≡ true → InClassWith B R σ
class_with_from B R σ e =
    let a = and_parts (is_in_class B σ) (contains_all R σ) e in record { member = class_from B σ a.0; contains = requires_from R σ a.1 }

-- a word of the class with required words passes its test
pub class_with_to : (B R : List (List ℕ)) (σ : List ℕ) → InClassWith B R σ → is_in_class_with B R σ ≡ true
class_with_to B R σ c = and_from (is_in_class B σ) (contains_all R σ) (class_to B σ c.member) (requires_to R σ c.contains)

-- the facts on it together
pub class_with_holds : (B R : List (List ℕ)) (σ : List ℕ) → HasClassWith B R σ
class_with_holds B R σ = record {
  test = (class_with_from B R σ, class_with_to B R σ);
  bare = (λ c. c.member, λ c. record { member = c; contains = λ τ i. absurd i });
}

-- a word that a word of the class contains is in the class
pub class_down : (B : List (List ℕ)) (σ τ : List ℕ) → InClass B σ → IsWord τ → Contains σ τ → InClass B τ
class_down B σ τ c w k = record { word = w; avoids = λ b i d. c.avoids b i (contains_trans σ τ b k d) }

-- avoiding the minimal words is avoiding all
pub avoids_minimal : (B : List (List ℕ)) (σ : List ℕ) → AreWords B → Each (Avoids σ) (minimal B) ↔ Each (Avoids σ) B
avoids_minimal B σ g = (
  λ h b i c. let m = has_minimal (length b) B b (words_each B g) i (omega arith) in h m.0 m.1 (contains_trans σ b m.0 c m.2),
  λ h b i. h b ((minimal_is B b).0 i).member,
)

-- containing the maximal words is containing all
pub contains_maximal : (R : List (List ℕ)) (σ : List ℕ) → AreWords R → Each (Contains σ) (maximal R) ↔ Each (Contains σ) R
contains_maximal R σ g = (
  λ h r i. let m = has_maximal R r (words_each R g) i in contains_trans σ m.0 r (h m.0 m.1) m.2,
  λ h r i. h r ((maximal_is R r).0 i).member,
)

-- the facts on minimal words together
pub minimal_holds : (B : List (List ℕ)) → HasMinimal B
minimal_holds B = record {
  listed = minimal_list B;
  ascending = minimal_ascending B;
  again = minimal_again B;
  same_class = λ g σ. (
    λ c. record { word = c.word; avoids = (avoids_minimal B σ g).0 c.avoids },
    λ c. record { word = c.word; avoids = (avoids_minimal B σ g).1 c.avoids },
  );
}

-- the facts on maximal words together
pub maximal_holds : (R : List (List ℕ)) → HasMaximal R
maximal_holds R = record { listed = maximal_list R; ascending = maximal_ascending R; again = maximal_again R; same_words = λ g σ. contains_maximal R σ g }
