-- When the test for simple words passes.
use Rattle.std.proofs.Common.{◌≡◌, ℕ, ◌<◌, ◌≤◌, ◌⊎◌, inl, inr, List, length, true, false, nat_le, sym, arith, IsTrue}
use Rattle.std.proofs.lemmas.Bool.{cases_Bool, and_parts}
use Rattle.av_perm.specs.Word.{is_word, is_perm}
use Rattle.av_perm.specs.Simple.{is_simple}
use Rattle.av_perm.specs.Relations.{IsOneToLength, IsSimple, IsInterval}
use Rattle.av_perm.proofs.WordTests.{word_from}
use Rattle.av_perm.proofs.SimpleWords.{simple_law}
use Rattle.av_perm.specs.declared.limits.TheConstants.{MAX_LENGTH}

perm_numbers : (w : List ℕ) → IsTrue (is_perm w) → IsOneToLength w
perm_numbers w p = (word_from w (and_parts (is_word w) (nat_le (length w) MAX_LENGTH) p).0).numbers

pub simple_passes : (w : List ℕ) → IsTrue (is_perm w) → 4 ≤ length w → ((i m : ℕ) → 2 ≤ m → m < length w → IsInterval w i m → ⊥) → true ≡ is_simple w
simple_passes w p long none = sym ((simple_law w (perm_numbers w p)).1 (record { numbers = perm_numbers w p; long = long; bare = none }))

fails : (w : List ℕ) → IsTrue (is_perm w) → (IsSimple w → ⊥) → false ≡ is_simple w
fails w p not_simple = by (cases_Bool (is_simple w))
  where
    by : ((is_simple w ≡ true) ⊎ (is_simple w ≡ false)) → false ≡ is_simple w
    by (inl e) = absurd (not_simple ((simple_law w (perm_numbers w p)).0 e))
    by (inr e) = sym e

pub short_fails : (w : List ℕ) → IsTrue (is_perm w) → length w < 4 → false ≡ is_simple w
short_fails w p h = fails w p (λ s. absurd (omega (arith, s.long)))

pub interval_fails : (w : List ℕ) (i m : ℕ) → IsTrue (is_perm w) → 2 ≤ m → m < length w → IsInterval w i m → false ≡ is_simple w
interval_fails w i m p h l v = fails w p (λ s. s.bare i m h l v)
