-- The block that was read avoids the words known.
use Rattle.std.proofs.Common.{◌≡◌, true, List, ℕ, sym, ◌∙◌, subst}
use Rattle.av_perm.specs.Class.{avoids_all}
use Rattle.av_tree.proofs.Meanings.{block_read}
use Rattle.av_tree.proofs.tops.all_mean.Goals as goal

pub means_besides-requires-clause-avoided : goal.means_besides-requires-clause-avoided
means_besides-requires-clause-avoided c =
    subst (λ (β : List ℕ). avoids_all c.args.known.now β ≡ true)
    (block_read c.args.blocks.now c.loop-i.i c.index-blocks-i.result c.loop-i-test.true c.index-blocks-i.is ∙ sym c.word.ensures) (c.requires.avoided c.loop-i.i c.loop-i-test.true)
