-- The law, from its proof.
use Rattle.av_check.proofs.Soundness.{sound_law}
use Rattle.av_check.proofs.laws.sound_law.Goals as goal

pub returns : goal.returns
returns c = sound_law
