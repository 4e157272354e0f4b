-- The count stays within the number of inversions.
use Rattle.std.proofs.Common.{arith}
use Rattle.av_perm.proofs.StatCounts.{inversions_few, inversions_turn}
use Rattle.av_perm.proofs.statistics.count_inversions.Goals as goal

pub overflow_add-count : goal.overflow_add-count
overflow_add-count c =
    let turn = inversions_turn c.args.entries.now c.loop-i.i c.loop-i-test.true in
    omega (arith, c.loop-i.invariant, inversions_few c.args.entries.now c.requires, turn, c.count_below-count.ensures.count)

pub returns-clause-few : goal.returns-clause-few
returns-clause-few c = omega (arith, c.loop-i.invariant, inversions_few c.args.entries.now c.requires)
