-- The law of the free constraint.
use Rattle.av_name.proofs.KnownPatterns.{free_law}
use Rattle.av_name.proofs.laws.free_law.Goals as goal

pub returns : goal.returns
returns c = free_law
