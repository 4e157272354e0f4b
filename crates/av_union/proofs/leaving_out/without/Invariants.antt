-- The entries gone through were copied.
use Rattle.std.proofs.Common.{◌≡◌, take}
use Rattle.av_union.proofs.leaving_out.without.Given as goal

abbrev pub invariant-loop-entry : goal.invariant-loop-entry
invariant-loop-entry l = l.values.items ≡ take l.entry-index l.entry-items
