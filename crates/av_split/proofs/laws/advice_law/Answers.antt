-- The law of what is known of a cell.
use Rattle.av_split.proofs.Advised.{advice_law}
use Rattle.av_split.proofs.laws.advice_law.Goals as goal

pub returns : goal.returns
returns c = advice_law
