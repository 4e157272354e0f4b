-- The same trees are left, from the place that is left on; each vertex makes less due.
use Rattle.std.proofs.Common.{◌≡◌, ◌<◌, drop}
use Rattle.av_list.specs.Remaining.{left, completion_count}
use Rattle.av_list.specs.Derivations.{Derives, load}
use Rattle.av_list.proofs.walk.complete.Given as goal

abbrev pub invariant-loop-due : goal.invariant-loop-due
invariant-loop-due l = record {
  same : drop l.r (left l.system l.fn.derivation.placed l.fn.derivation.due) ≡ drop l.rank (left l.system l.derivation.placed l.derivation.due);
  within : l.rank < completion_count l.system l.derivation.due;
  derives : Derives l.system l.fn.derivation.size l.derivation.placed l.derivation.due;
  size : l.derivation.size ≡ l.fn.derivation.size;
}

abbrev pub decreases-loop-due : goal.decreases-loop-due
decreases-loop-due l = load l.derivation.due
