-- No embedding that begins with the children goes on with a child that was passed.
use Rattle.std.proofs.Common.{◌≡◌, ◌-◌, ◌++◌, ◌∷◌, [], length}
use Rattle.av_embed.specs.Left.{embeddings_from}
use Rattle.av_embed.proofs.embeddings.+complete.Given as goal

abbrev pub decreases-complete : goal.decreases-complete
decreases-complete l = length l.pattern.now - length l.children.now.items

abbrev pub invariant-loop-child : goal.invariant-loop-child
invariant-loop-child l =
    (l.children.items ≡ l.initial.children.items)
    × (embeddings_from l.root l.pattern (l.initial.children.items ++ l.initial.from ∷ []) ≡ embeddings_from l.root l.pattern (l.initial.children.items ++ l.child ∷ []))
