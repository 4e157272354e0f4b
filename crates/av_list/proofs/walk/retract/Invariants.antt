-- The same trees come later.
use Rattle.std.proofs.Common.{◌≡◌, length}
use Rattle.av_list.specs.Remaining.{later}
use Rattle.av_list.specs.Derivations.{Derives}
use Rattle.av_list.proofs.walk.retract.Given as goal

abbrev pub invariant-loop-vertex : goal.invariant-loop-vertex
invariant-loop-vertex l = record {
  same : later l.system l.fn.derivation.placed l.fn.derivation.due ≡ later l.system l.derivation.placed l.derivation.due;
  derives : Derives l.system l.fn.derivation.size l.derivation.placed l.derivation.due;
  size : l.derivation.size ≡ l.fn.derivation.size;
}

abbrev pub decreases-loop-vertex : goal.decreases-loop-vertex
decreases-loop-vertex l = length l.derivation.placed
