-- The law of the texts of systems.
use Rattle.av_print.proofs.ReadSystems.{system_text_once}
use Rattle.av_print.proofs.laws.system_text_law.Goals as goal

pub returns : goal.returns
returns c = system_text_once
