-- The words gone through are asked about.
use Rattle.std.proofs.Common.{take, map}
use Rattle.av_perm.specs.Lists.{Extends}
use Rattle.av_walk.specs.Leaves.{asks}
use Rattle.av_walk.specs.Numbers.{AddsLiterals}
use Rattle.av_walk.proofs.literals.push_words.Given as goal

abbrev pub invariant-loop-word : goal.invariant-loop-word
invariant-loop-word l = record {
  grows : Extends l.fn.patterns l.patterns;
  literals : AddsLiterals l.child l.fn.patterns l.patterns l.fn.term l.term (map (asks l.required l.child) (take l.word-index l.words));
}
