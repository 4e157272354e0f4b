-- The words handed out so far stand in the list.
use Rattle.std.proofs.Common.{◌≡◌}
use Rattle.av_simple.proofs.extension.in_order.Given as goal

abbrev pub invariant-loop-word : goal.invariant-loop-word
invariant-loop-word l = l.level ≡ l.yielded
