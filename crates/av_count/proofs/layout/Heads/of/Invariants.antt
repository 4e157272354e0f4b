-- The children of the terms before the loop's.
use Rattle.std.proofs.Common.{length}
use Rattle.av_count.specs.Links.{Keeps, AreLinks, AreHeads}
use Rattle.av_count.proofs.layout.Heads.of.Given as goal

abbrev pub invariant-loop-t : goal.invariant-loop-t
invariant-loop-t l = record {
  kept : Keeps l.fn.links l.links;
  heads : AreHeads l.system l.links l.eq l.t l.items.items;
  stand : AreLinks (length l.system.equations) l.links;
}
