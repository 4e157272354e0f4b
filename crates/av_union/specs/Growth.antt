-- Partial overlays: words that hold the first word of an overlay and, at some places, the first entries of the second, its
-- pattern. How they grow by one entry of the pattern at a time. Places are counted from 0.
use Rattle.std.specs.Prelude.{◌≡◌, ℕ, zero, suc, ◌<◌, ◌≤◌, ◌⊎◌, Bool, ◌&&◌, cond, nat_le, nat_lt, List, [], ◌∷◌, ◌++◌, length, map, take, flat_map}
use Rattle.std.specs.List.{list_all}
use Rattle.av_perm.specs.Contain.{same_order}
use Rattle.av_perm.specs.Members.{In}
use Rattle.av_perm.specs.Relations.{at, IsWord, IsOccurrence}
use Rattle.av_union.specs.declared.choices.Choice.{Choice}
use Rattle.av_union.specs.Choices.{place_of, word_after, choices}

-- the places are some of the word's
abbrev pub ArePlacesOf : List ℕ → List ℕ → Type 0
ArePlacesOf w q = (j : ℕ) → j < length q → at q j < length w

-- `W` holds the partial overlay `w`, with the pattern `τ` begun at its places `q`: `w` stands at the places `r` of `W`, and `τ` at
-- `Q`, whose first places are those of `q`. Each place of `W` is one of `r` or one of the later ones of `Q`
pub record Grows (τ w q W r Q : List ℕ) : Type 0 where
  pub word : IsWord W
  pub short : length q ≤ length τ
  pub inner : IsOccurrence W w r
  pub second : IsOccurrence W τ Q
  pub same : (j : ℕ) → j < length q → at r (at q j) ≡ at Q j
  pub all : (s : ℕ) → s < length W → In s r ⊎ ((j : ℕ) × (length q ≤ j) × (j < length τ) × (at Q j ≡ s))

-- so for some places: the partial overlay can grow to `W`
abbrev pub GrowsTo : List ℕ → List ℕ → List ℕ → List ℕ → Type 0
GrowsTo τ w q W = (r : List ℕ) × ((Q : List ℕ) × Grows τ w q W r Q)

-- the places with that of a choice
abbrev pub places_after : List ℕ → Choice → List ℕ
places_after q c = q ++ place_of c ∷ []

-- each place comes before that of the choice
abbrev pub AreBefore : List ℕ → Choice → Type 0
AreBefore q c = (j : ℕ) → j < length q → at q j < place_of c

-- the entries at the places lie as the first ones of the pattern
abbrev pub begins_at : List ℕ → List ℕ → List ℕ → Bool
begins_at w q τ = nat_le (length q) (length τ) && same_order (map (at w) q) (take (length q) τ)

-- the pattern may go on by a choice
abbrev pub may_grow : List ℕ → List ℕ → List ℕ → Choice → Bool
may_grow τ w q c = list_all (λ j. nat_lt j (place_of c)) q && begins_at (word_after w c) (places_after q c) τ

-- the words to which a partial overlay grows by n entries more of the pattern
unfoldable pub grown : ℕ → List ℕ → List ℕ → List ℕ → List (List ℕ)
grown zero τ w q = w ∷ []
grown (suc n) τ w q = flat_map (λ c. cond (may_grow τ w q c) (grown n τ (word_after w c) (places_after q c)) []) (choices (length w))

-- those to which it grows when it takes the choice first, and then n entries more
abbrev pub grown_by : ℕ → List ℕ → List ℕ → List ℕ → Choice → List (List ℕ)
grown_by n τ w q c = cond (may_grow τ w q c) (grown n τ (word_after w c) (places_after q c)) []

-- the words to which a word grows when the whole pattern is laid over it: what the two cover
abbrev pub overlays : List ℕ → List ℕ → List (List ℕ)
overlays σ τ = grown (length τ) τ σ []
