-- The words of the constraint, of the patterns gone through.
use Rattle.std.proofs.Common.{◌≡◌, take, flat_map}
use Rattle.av_split.specs.Marks.{named_at}
use Rattle.av_split.proofs.table.Table.named.Given as goal

abbrev pub invariant-loop-i : goal.invariant-loop-i
invariant-loop-i l = l.found ≡ flat_map (named_at l.self l.required l.row) (take l.i-index l.i-items)
