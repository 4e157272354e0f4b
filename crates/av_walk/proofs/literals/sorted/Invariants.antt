-- The set holds the words gone through, and the list those that it handed out.
use Rattle.std.proofs.Common.{◌≡◌, drop}
use Rattle.av_perm.specs.Class.{in_shortlex}
use Rattle.av_walk.proofs.literals.sorted.Given as goal

abbrev pub invariant-loop-i : goal.invariant-loop-i
invariant-loop-i l = l.set.keys ≡ in_shortlex (drop l.i l.items)

abbrev pub invariant-loop-word : goal.invariant-loop-word
invariant-loop-word l = l.all ≡ l.yielded
