-- The terms gone through that have the root.
use Rattle.std.proofs.Common.{length, map, take}
use Rattle.av_perm.specs.Lists.{Extends}
use Rattle.av_walk.specs.Leaves.{names_of_root, literals}
use Rattle.av_walk.specs.Numbers.{AreTermsOf}
use Rattle.av_walk.proofs.literals.terms_of.Given as goal

abbrev pub invariant-loop-term : goal.invariant-loop-term
invariant-loop-term l = record {
  grows : Extends l.fn.patterns l.patterns;
  terms : AreTermsOf (length l.root) l.patterns l.terms (map (literals 0) (names_of_root l.system l.root (take l.term-index l.equation.terms)));
}
