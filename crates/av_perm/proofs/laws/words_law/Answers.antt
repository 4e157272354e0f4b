-- The words of a length, each once, in lexicographic order: by the first entry, and then the others.
use Rattle.av_perm.proofs.WordLists.{words_list, words_ascending}
use Rattle.av_perm.proofs.laws.words_law.Goals as goal

pub returns : goal.returns
returns c n h = record { listed = words_list n h; ascending = words_ascending n }
