-- Statistics: each is the number of the places, or pairs of places, that it names.
use Rattle.av_perm.proofs.StatLists.{statistics_law}
use Rattle.av_perm.proofs.laws.statistics_law.Goals as goal

pub returns : goal.returns
returns c = statistics_law
