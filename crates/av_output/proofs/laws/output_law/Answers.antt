-- The law, from its proof.
use Rattle.av_output.proofs.Outputs as outputs
use Rattle.av_output.proofs.laws.output_law.Goals as goal

pub returns : goal.returns
returns c = outputs.output_law
