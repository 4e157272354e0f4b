-- The tokens before aren't the one that is known.
use Rattle.std.proofs.Common.{map, take}
use Rattle.av_perm.specs.Members.{In}
use Rattle.av_check.proofs.reading.pieces.cut_before.Given as goal

abbrev pub invariant-loop-at : goal.invariant-loop-at
invariant-loop-at l = In l.known (map (λ t. t.now) (take l.at l.tokens)) → ⊥
