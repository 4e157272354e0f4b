-- The law of names up to a length, of the canonical system of a name.
use Rattle.av_build.proofs.NameSystems.{named_from_law}
use Rattle.av_build.proofs.laws.named_from_law.Goals as goal

pub returns : goal.returns
returns c = named_from_law
