-- The entries are the numbers 1 to the loop's counter.
use Rattle.std.proofs.Common.{◌≡◌}
use Rattle.av_perm.specs.Lists.{counting}
use Rattle.av_perm.proofs.lex.Lex.new.Given as goal

abbrev pub invariant-loop-i : goal.invariant-loop-i
invariant-loop-i l = l.entries.items ≡ counting 1 l.i
