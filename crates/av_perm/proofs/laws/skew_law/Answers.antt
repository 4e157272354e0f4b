-- Skew-indecomposable words: no cut passes exactly where the word is no inflation of 21.
use Rattle.av_perm.proofs.Sums.{skew_law}
use Rattle.av_perm.proofs.laws.skew_law.Goals as goal

pub returns : goal.returns
returns c = skew_law
