-- Inflations: the raised blocks take each number from 1 to the length once.
use Rattle.av_perm.proofs.Inflations.{inflation_law}
use Rattle.av_perm.proofs.laws.inflation_law.Goals as goal

pub returns : goal.returns
returns c = inflation_law
