-- The equations are those of the kept ones gone through.
use Rattle.std.proofs.Common.{◌≡◌, map, take}
use Rattle.av_build.specs.Lean.{kept, lean_equation}
use Rattle.av_build.proofs.pruning.prune.Given as goal

abbrev pub invariant-loop-i : goal.invariant-loop-i
invariant-loop-i l = l.equations ≡ map (lean_equation l.system (kept l.system)) (take l.i (kept l.system))
