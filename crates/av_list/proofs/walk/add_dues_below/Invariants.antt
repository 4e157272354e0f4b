-- The last k children are due before what was due.
use Rattle.std.proofs.Common.{◌≡◌, ◌-◌, ◌++◌, drop, length}
use Rattle.av_list.specs.Vertices.{dues}
use Rattle.av_list.proofs.walk.add_dues_below.Given as goal

abbrev pub invariant-loop-k : goal.invariant-loop-k
invariant-loop-k l = record {
  due : l.derivation.due ≡ drop (length l.children - l.k) (dues l.children l.vertex.sizes) ++ l.fn.derivation.due;
  placed : l.derivation.placed ≡ l.fn.derivation.placed;
  size : l.derivation.size ≡ l.fn.derivation.size;
}
