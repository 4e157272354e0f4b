-- The search goes back, and the embeddings that are left stay the same.
use Rattle.std.proofs.Common.{◌≡◌, ◌++◌, ◌∷◌, [], length}
use Rattle.av_embed.specs.Left.{StandsAt, embeddings_from}
use Rattle.av_embed.proofs.embeddings.advance.Given as goal

abbrev pub invariant-loop-children : goal.invariant-loop-children
invariant-loop-children l =
    StandsAt l.root l.pattern l.children.items l.from
    × (embeddings_from l.root l.pattern (l.initial.children.items ++ l.initial.from ∷ []) ≡ embeddings_from l.root l.pattern (l.children.items ++ l.from ∷ []))

abbrev pub decreases-loop-children : goal.decreases-loop-children
decreases-loop-children l = length l.children.items
