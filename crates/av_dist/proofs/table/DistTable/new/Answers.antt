-- No equation has more trees of a size than there are lists of digits.
use Rattle.std.proofs.Common.{arith}
use Rattle.av_dist.proofs.FewTrees.{few_trees}
use Rattle.av_dist.proofs.table.DistTable.new.Goals as goal

pub level_of-requires-clause-bounded : goal.level_of-requires-clause-bounded
level_of-requires-clause-bounded c u m h =
    few_trees c.args.system.now c.requires.formed c.args.n c.requires.most c.requires.named u m (omega (arith, c.loop-below-test.true))
