-- The entries are those of the pattern before the loop's place.
use Rattle.std.proofs.Common.{◌≡◌, suc, map, take}
use Rattle.av_perm.specs.Pattern.{smaller}
use Rattle.av_perm.proofs.pattern.pattern_of.Given as goal

abbrev pub invariant-loop-value : goal.invariant-loop-value
invariant-loop-value l = l.entries.items ≡ map (λ v. suc (smaller v l.values)) (take l.value-index l.values)
