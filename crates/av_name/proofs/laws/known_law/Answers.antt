-- The law of what is known.
use Rattle.av_name.proofs.KnownPatterns.{known_law}
use Rattle.av_name.proofs.laws.known_law.Goals as goal

pub returns : goal.returns
returns c = known_law
