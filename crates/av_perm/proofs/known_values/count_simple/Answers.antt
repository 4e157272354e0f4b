-- There are so few words that a count of them fits.
use Rattle.std.proofs.Common.{arith}
use Rattle.av_perm.specs.Simple.{is_simple}
use Rattle.av_perm.proofs.FewWords.{count_fits}
use Rattle.av_perm.proofs.known_values.count_simple.Goals as goal

pub overflow_add-count : goal.overflow_add-count
overflow_add-count c =
    omega (arith, c.loop-word.invariant.counted, count_fits c.args.n is_simple c.loop-word.yielded c.loop-word.word-iterator c.requires.few c.loop-word.invariant.left)
