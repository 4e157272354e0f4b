-- A word after a choice: it is a word, at most one entry longer, contains the word before, and has the places chosen.
use Rattle.std.proofs.Common.{ℕ, suc, ◌<◌, ◌≤◌, inl, inr, List, length, arith}
use Rattle.std.proofs.lemmas.Bool.{cases_eq}
use Rattle.av_perm.specs.Relations.{IsWord, Contains}
use Rattle.av_perm.proofs.Containment.{contains_same}
use Rattle.av_perm.proofs.ListLaws.{snoc_before, snoc_last, length_snoc}
use Rattle.av_union.specs.declared.choices.Choice.{Choice}
use Rattle.av_union.specs.declared.choices.Choice.TheVariants.{Shared, New}
use Rattle.av_union.specs.Choices.{IsChoice, place_of, word_after}
use Rattle.av_union.specs.Growth.{ArePlacesOf, places_after}
use Rattle.av_union.proofs.InsertedEntries.{inserted_word, inserted_length, inserted_contains}

-- it is a word
pub word_after_word : (w : List ℕ) (c : Choice) → IsWord w → IsChoice (length w) c → IsWord (word_after w c)
word_after_word w (Shared s) g h = g
word_after_word w (New s v) g h = inserted_word w s v g h.0

-- at most one entry longer
pub word_after_few : (w : List ℕ) (c : Choice) → IsChoice (length w) c → length (word_after w c) ≤ suc (length w)
word_after_few w (Shared s) h = omega arith
word_after_few w (New s v) h = omega (arith, inserted_length w s v h.0)

-- and no shorter
pub word_after_more : (w : List ℕ) (c : Choice) → IsChoice (length w) c → length w ≤ length (word_after w c)
word_after_more w (Shared s) h = omega arith
word_after_more w (New s v) h = omega (arith, inserted_length w s v h.0)

-- it contains the word before
pub word_after_contains : (w : List ℕ) (c : Choice) → IsChoice (length w) c → Contains (word_after w c) w
word_after_contains w (Shared s) h = contains_same w
word_after_contains w (New s v) h = inserted_contains w s v h.0

-- the place of a choice is at most the end of the word
pub place_within : (n : ℕ) (c : Choice) → IsChoice n c → place_of c ≤ n
place_within n (Shared s) h = omega (arith, h)
place_within n (New s v) h = h.0

-- and one of those of the word after it
place_after : (w : List ℕ) (c : Choice) → IsChoice (length w) c → place_of c < length (word_after w c)
place_after w (Shared s) h = h
place_after w (New s v) h = omega (arith, inserted_length w s v h.0, h.0)

-- so the places with it are places of that word
pub places_placed : (w q : List ℕ) (c : Choice) → ArePlacesOf w q → IsChoice (length w) c → ArePlacesOf (word_after w c) (places_after q c)
places_placed w q c placed h j l = elim (cases_eq j (length q)) [
  | inl e ↦ omega (arith, snoc_last q (place_of c) j e, place_after w c h)
  | inr ne ↦
      let m : j < length q = omega (arith, length_snoc q (place_of c), ne) in
      omega (arith, snoc_before q (place_of c) j m, placed j m, word_after_more w c h)
]
