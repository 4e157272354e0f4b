-- No term that was gone through is wrong.
use Rattle.std.proofs.Common.{◌≡◌, drop}
use Rattle.av_check.specs.Verdicts.{first_some, wrong_root}
use Rattle.av_check.proofs.roots.first_wrong_root.Given as goal

abbrev pub invariant-loop-term : goal.invariant-loop-term
invariant-loop-term l = first_some (wrong_root l.fn.system l.fn.simples l.fn.equation.name) (drop l.term-index l.term-items) ≡ first_some (wrong_root l.fn.system l.fn.simples l.fn.equation.name) l.term-items
