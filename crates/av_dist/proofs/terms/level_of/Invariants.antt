-- The rows of the equations before the loop's.
use Rattle.av_dist.proofs.HeldLevels.{LevelUpTo}
use Rattle.av_dist.proofs.terms.level_of.Given as goal

abbrev pub invariant-loop-eq : goal.invariant-loop-eq
invariant-loop-eq l = LevelUpTo l.levels.kind l.system l.size l.eq l.level
