-- The top of required words: the maximal ones but for the word 1, which each word contains.
use Rattle.av_perm.proofs.TopWords.{top_holds}
use Rattle.av_perm.proofs.laws.top_law.Goals as goal

pub returns : goal.returns
returns c required = top_holds required
