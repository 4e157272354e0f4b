-- The law of well-formed systems.
use Rattle.av_sys.proofs.FormTests.{well_formed_law}
use Rattle.av_sys.proofs.laws.well_formed_law.Goals as goal

pub returns : goal.returns
returns c = well_formed_law
