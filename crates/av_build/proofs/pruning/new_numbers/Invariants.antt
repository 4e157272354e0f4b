-- The numbers are those of the equations gone through.
use Rattle.std.proofs.Common.{◌≡◌, map, take}
use Rattle.av_build.specs.Lean.{place_of}
use Rattle.av_build.proofs.pruning.new_numbers.Given as goal

abbrev pub invariant-loop-child : goal.invariant-loop-child
invariant-loop-child l = l.numbers ≡ map (place_of l.kept) (take l.child-index l.child-items)
