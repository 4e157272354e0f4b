-- Where the next entry of a pattern may stand in a word, and the word with it. Places are counted from 0.
use Rattle.std.specs.Prelude.{ℕ, suc, ◌-◌, ◌*◌, ◌<◌, ◌≤◌, List, ◌++◌, map, flat_map, insert}
use Rattle.av_perm.specs.Lists.{counting}
use Rattle.av_perm.specs.Relations.{pattern_of}
use Rattle.av_union.specs.declared.choices.Choice.{Choice}
use Rattle.av_union.specs.declared.choices.Choice.TheVariants.{Shared, New}

-- the word with one entry more before place s, or at its end, of which v entries lie below it: with each entry doubled, an odd
-- number lies between any two of them
abbrev pub inserted : List ℕ → ℕ → ℕ → List ℕ
inserted w s v = pattern_of (insert (map (λ x. 2 * x) w) s (suc (2 * v)))

-- the place of the entry
abbrev pub place_of : Choice → ℕ
place_of (Shared s) = s
place_of (New s v) = s

-- the word with it
abbrev pub word_after : List ℕ → Choice → List ℕ
word_after w (Shared s) = w
word_after w (New s v) = inserted w s v

-- a choice in a word of n entries
abbrev pub IsChoice : ℕ → Choice → Type 0
IsChoice n (Shared s) = s < n
IsChoice n (New s v) = (s ≤ n) × (v ≤ n)

-- the n entries that are there, from place s on
abbrev pub shared_from : ℕ → ℕ → List Choice
shared_from n s = map (λ p. Shared p) (counting s (n - s))

-- the new entries before place s, from that with v entries below it on
abbrev pub new_at : ℕ → ℕ → ℕ → List Choice
new_at n s v = map (λ k. New s k) (counting v (suc n - v))

-- those before the places after s
abbrev pub new_after : ℕ → ℕ → List Choice
new_after n s = flat_map (λ p. new_at n p 0) (counting (suc s) (n - s))

-- the entries that are there from place k on, and then the new ones from that before place s with v entries below it on
abbrev pub choices_from : ℕ → ℕ → ℕ → ℕ → List Choice
choices_from n k s v = shared_from n k ++ (new_at n s v ++ new_after n s)

-- all choices in a word of n entries
unfoldable pub choices : ℕ → List Choice
choices n = choices_from n 0 0 0
