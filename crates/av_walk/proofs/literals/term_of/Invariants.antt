-- The children gone through are asked.
use Rattle.std.proofs.Common.{length, take}
use Rattle.av_perm.specs.Lists.{Extends}
use Rattle.av_walk.specs.Leaves.{names_at, literals}
use Rattle.av_walk.specs.Numbers.{AreLiteralsOf}
use Rattle.av_walk.proofs.literals.term_of.Given as goal

abbrev pub invariant-loop-i : goal.invariant-loop-i
invariant-loop-i l = record {
  grows : Extends l.fn.patterns l.patterns;
  term : AreLiteralsOf (length l.children) l.patterns l.term (literals 0 (names_at l.system (take l.i l.children)));
}
