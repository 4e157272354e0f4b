-- The simple words of a class of a length: those of its words that pass the test.
use Rattle.av_perm.proofs.SimpleWords.{simples_list, simples_ascending}
use Rattle.av_perm.proofs.laws.simples_law.Goals as goal

pub returns : goal.returns
returns c basis m = record { listed = simples_list basis m; ascending = simples_ascending basis m }
