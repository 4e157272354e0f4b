-- The entries before the loop's place, raised.
use Rattle.std.proofs.Common.{◌≡◌, map, take}
use Rattle.av_simple.specs.Extension.{raised_from}
use Rattle.av_simple.proofs.extension.insert_point.Given as goal

abbrev pub invariant-loop-other : goal.invariant-loop-other
invariant-loop-other l = l.entries.items ≡ map (raised_from l.entry) (take l.other-index l.other-items)
