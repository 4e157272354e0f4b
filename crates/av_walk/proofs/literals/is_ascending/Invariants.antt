-- The words gone through ascend.
use Rattle.std.proofs.Common.{◌≡◌, ◌<◌, ℕ, suc, [], get_or}
use Rattle.std.specs.declared.cmp.Ordering.TheVariants.{Less}
use Rattle.av_perm.specs.Word.{shortlex}
use Rattle.av_walk.proofs.literals.is_ascending.Given as goal

abbrev pub invariant-loop-i : goal.invariant-loop-i
invariant-loop-i l = (j : ℕ) → suc j < l.i → shortlex (get_or l.items j []) (get_or l.items (suc j) []) ≡ Less
