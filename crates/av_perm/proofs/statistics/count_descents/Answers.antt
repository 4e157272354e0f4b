-- The count stays within the number of descents.
use Rattle.std.proofs.Common.{ℕ, arith, ◌≤◌, ◌-◌, length, drop, length-drop}
use Rattle.av_perm.proofs.StatCounts.{descents_few, descents_end}
use Rattle.av_perm.proofs.statistics.count_descents.Goals as goal

pub overflow_add-count : goal.overflow_add-count
overflow_add-count c = omega (arith, c.loop-i.invariant, descents_few c.args.entries.now, c.requires)

pub returns-clause-value : goal.returns-clause-value
returns-clause-value c =
    let short : length (drop (c.loop-i.i - 1) c.args.entries.now) ≤ 1 = omega (arith, length-drop {A = ℕ}, c.loop-i-test.false, c.loop-i.auto.i) in
    omega (arith, c.loop-i.invariant, descents_end (drop (c.loop-i.i - 1) c.args.entries.now) short)

pub returns-clause-few : goal.returns-clause-few
returns-clause-few c = omega (arith, c.loop-i.invariant, descents_few c.args.entries.now, c.requires)
