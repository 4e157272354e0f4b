-- Worked embeddings, by computation.
use Rattle.std.proofs.Common.{◌≡◌, ℕ, List, [], ◌∷◌, refl, length}
use Rattle.av_perm.specs.Lists.{all_lists}
use Rattle.av_perm.specs.Fibre.{fibre}
use Rattle.av_perm.specs.Pattern.{pattern_of}
use Rattle.av_embed.specs.Embed.{embeddings}

-- the root of a sum
abbrev w12 : List ℕ
w12 = 1 ∷ 2 ∷ []

-- a word of two falls
abbrev w2143 : List ℕ
w2143 = 2 ∷ 1 ∷ 4 ∷ 3 ∷ []

-- the embeddings of 132 in 12
embeddings_of_132 : embeddings w12 (1 ∷ 3 ∷ 2 ∷ []) ≡ (1 ∷ 1 ∷ 1 ∷ []) ∷ (1 ∷ 2 ∷ 2 ∷ []) ∷ (2 ∷ 2 ∷ 2 ∷ []) ∷ []
unfolding embeddings all_lists
embeddings_of_132 = refl

-- and those of 2143
embeddings_of_2143 : embeddings w12 w2143 ≡ (1 ∷ 1 ∷ 1 ∷ 1 ∷ []) ∷ (1 ∷ 1 ∷ 2 ∷ 2 ∷ []) ∷ (2 ∷ 2 ∷ 2 ∷ 2 ∷ []) ∷ []
unfolding embeddings all_lists
embeddings_of_2143 = refl

-- its fibre of child 2 under 1122
fibre_of_1122 : pattern_of (fibre w2143 (1 ∷ 1 ∷ 2 ∷ 2 ∷ []) 2) ≡ 2 ∷ 1 ∷ []
fibre_of_1122 = refl

-- and under 1111
fibre_of_1111 : fibre w2143 (1 ∷ 1 ∷ 1 ∷ 1 ∷ []) 2 ≡ []
fibre_of_1111 = refl

-- how many of all maps of 41352 into the simple root 2413 are embeddings
embeddings_in_2413 : length (embeddings (2 ∷ 4 ∷ 1 ∷ 3 ∷ []) (4 ∷ 1 ∷ 3 ∷ 5 ∷ 2 ∷ [])) ≡ 4
unfolding embeddings all_lists
embeddings_in_2413 = refl

-- and of maps of 214365 into 25314
embeddings_in_25314 : length (embeddings (2 ∷ 5 ∷ 3 ∷ 1 ∷ 4 ∷ []) (2 ∷ 1 ∷ 4 ∷ 3 ∷ 6 ∷ 5 ∷ [])) ≡ 20
unfolding embeddings all_lists
embeddings_in_25314 = refl
