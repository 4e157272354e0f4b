-- As many equations as were gone through have no mark.
use Rattle.std.proofs.Common.{◌≡◌, map, take, false}
use Rattle.av_sys.specs.declared.terms.Equation.{Equation}
use Rattle.av_build.proofs.marking.no_marks.Given as goal

abbrev pub invariant-loop-equation : goal.invariant-loop-equation
invariant-loop-equation l = l.marks ≡ map (λ (e : Equation). false) (take l._equation-index l._equation-items)
