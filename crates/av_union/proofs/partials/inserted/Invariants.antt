-- The entries gone through were doubled.
use Rattle.std.proofs.Common.{◌≡◌, ◌*◌, take, map}
use Rattle.av_union.proofs.partials.inserted.Given as goal

abbrev pub invariant-loop-entry : goal.invariant-loop-entry
invariant-loop-entry l = l.values.items ≡ map (λ x. 2 * x) (take l.entry-index l.entry-items)
