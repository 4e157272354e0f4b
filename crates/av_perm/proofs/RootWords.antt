-- The root of a decomposition is a word.
use Rattle.std.proofs.Common.{inl, inr, List, ℕ, refl, sym, subst}
use Rattle.av_perm.specs.Relations.{IsOneToLength, sum_root, skew_root}
use Rattle.av_perm.specs.Decompose.{IsRoot}
use Rattle.av_perm.proofs.WordTests.{word_from}

-- 12 is a word
pub rise_word : IsOneToLength sum_root
rise_word = (word_from sum_root refl).numbers

-- 21 is a word
pub fall_word : IsOneToLength skew_root
fall_word = (word_from skew_root refl).numbers

-- a root is a word
pub root_word : (π α : List ℕ) → IsRoot π α → IsOneToLength π
root_word π α (inl r) = subst IsOneToLength (sym r.0) rise_word
root_word π α (inr (inl r)) = subst IsOneToLength (sym r.0) fall_word
root_word π α (inr (inr p)) = p.numbers
