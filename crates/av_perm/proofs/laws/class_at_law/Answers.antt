-- The words of a class of a length: those of all words of that length that pass the test.
use Rattle.av_perm.proofs.WordLists.{class_list, class_ascending}
use Rattle.av_perm.proofs.laws.class_at_law.Goals as goal

pub returns : goal.returns
returns c basis n h = record { listed = class_list basis n h; ascending = class_ascending basis n }
