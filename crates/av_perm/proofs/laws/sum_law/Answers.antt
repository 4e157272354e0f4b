-- Sum-indecomposable words: no cut passes exactly where the word is no inflation of 12.
use Rattle.av_perm.proofs.Sums.{sum_law}
use Rattle.av_perm.proofs.laws.sum_law.Goals as goal

pub returns : goal.returns
returns c = sum_law
