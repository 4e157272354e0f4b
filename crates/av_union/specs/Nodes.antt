-- The nodes of a search for overlays: partial overlays with the choices that they have left, and what they still give.
use Rattle.std.specs.Prelude.{◌≡◌, ℕ, zero, suc, ◌+◌, ◌-◌, ◌<◌, ◌≤◌, cond, List, [], ◌∷◌, ◌++◌, length, flat_map, sum_by, Option, Some, None}
use Rattle.av_perm.specs.Members.{In}
use Rattle.av_union.specs.declared.limits.TheConstants.{MAX_OVERLAY_LENGTH}
use Rattle.av_union.specs.declared.choices.Choice.{Choice}
use Rattle.av_union.specs.declared.overlays.Node.{Node}
use Rattle.av_union.specs.Choices.{IsChoice, word_after, choices}
use Rattle.av_union.specs.Growth.{places_after, may_grow, grown_by}

-- the words to which a partial overlay grows by n entries more of the pattern, the first of them by one of the choices
abbrev pub grown_among : ℕ → List ℕ → List ℕ → List ℕ → List Choice → List (List ℕ)
grown_among zero τ w q cs = w ∷ []
grown_among (suc n) τ w q cs = flat_map (grown_by n τ w q) cs

-- how many entries of the pattern a node lacks
abbrev pub lacking : List ℕ → Node → ℕ
lacking τ x = length τ - length x.partial.places.items

-- what a node still gives
abbrev pub node_left : List ℕ → Node → List (List ℕ)
node_left τ x = grown_among (lacking τ x) τ x.partial.word x.partial.places.items x.choices

-- what all nodes still give, the last one first
abbrev pub nodes_left : List ℕ → List Node → List (List ℕ)
nodes_left τ [] = []
nodes_left τ (x ∷ xs) = nodes_left τ xs ++ node_left τ x

-- a node of a partial overlay with d places, whose choices are choices in its word
pub record IsNode (τ : List ℕ) (d : ℕ) (x : Node) : Type 0 where
  pub places : length x.partial.places.items ≡ d
  pub within : d ≤ length τ
  pub few : length x.partial.word ≤ MAX_OVERLAY_LENGTH + d
  pub choices_in : (c : Choice) → In c x.choices → IsChoice (length x.partial.word) c

-- each node has one place more than the one before
abbrev pub AreNodes : List ℕ → ℕ → List Node → Type 0
AreNodes τ d [] = Unit {0}
AreNodes τ d (x ∷ xs) = IsNode τ d x × AreNodes τ (suc d) xs

-- how many turns of the search a partial overlay takes that lacks n entries and has these choices left
unfoldable pub cost : ℕ → List ℕ → List ℕ → List ℕ → List Choice → ℕ
cost zero τ w q cs = 1
cost (suc n) τ w q cs = suc (sum_by (λ c. suc (cond (may_grow τ w q c) (cost n τ (word_after w c) (places_after q c) (choices (length (word_after w c)))) 0)) cs)

-- how many a node takes
abbrev pub node_cost : List ℕ → Node → ℕ
node_cost τ x = cost (lacking τ x) τ x.partial.word x.partial.places.items x.choices

-- how many all nodes take
abbrev pub nodes_cost : List ℕ → List Node → ℕ
nodes_cost τ [] = 0
nodes_cost τ (x ∷ xs) = node_cost τ x + nodes_cost τ xs

-- the next word of those that the nodes had left, or none where they had none
abbrev pub IsNext : List ℕ → List Node → List Node → Option (List ℕ) → Type 0
IsNext τ old new None = (nodes_left τ old ≡ []) × (nodes_left τ new ≡ [])
IsNext τ old new (Some w) = nodes_left τ old ≡ w ∷ nodes_left τ new

-- a node took its next choice: what it and the others had left is left, and fewer turns are
pub record TakesChoice (τ : List ℕ) (x : Node) (old new : List Node) : Type 0 where
  pub nodes : AreNodes τ 0 new
  pub left : nodes_left τ new ≡ node_left τ x ++ nodes_left τ old
  pub less : nodes_cost τ new < node_cost τ x + nodes_cost τ old
