-- The next entry lies to each earlier one as the root's entries at their children lie.
use Rattle.std.proofs.Common.{ℕ, ◌<◌}
use Rattle.av_embed.proofs.Begun.{LiesAt}
use Rattle.av_embed.proofs.embeddings.may_go.Given as goal

abbrev pub invariant-loop-i : goal.invariant-loop-i
invariant-loop-i l = (k : ℕ) → k < l.i → LiesAt l.root l.pattern l.children l.child k
