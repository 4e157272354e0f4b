-- The words of such a class of a length: those of all words of that length that pass both tests.
use Rattle.av_perm.proofs.WordLists.{class_with_list, class_with_ascending}
use Rattle.av_perm.proofs.laws.class_with_at_law.Goals as goal

pub returns : goal.returns
returns c basis required n h = record { listed = class_with_list basis required n h; ascending = class_with_ascending basis required n }
