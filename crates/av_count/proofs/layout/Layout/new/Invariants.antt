-- The children of the terms of the equations before the loop's.
use Rattle.av_count.specs.Links.{AreNodes}
use Rattle.av_count.proofs.layout.Layout.new.Given as goal

abbrev pub invariant-loop-eq : goal.invariant-loop-eq
invariant-loop-eq l = AreNodes l.system l.links l.eq l.nodes.items
