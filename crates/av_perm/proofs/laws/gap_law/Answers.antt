-- The gap: the search by levels finds the least two empty lengths that follow each other.
use Rattle.av_perm.proofs.Gaps.{gap_law}
use Rattle.av_perm.proofs.laws.gap_law.Goals as goal

pub returns : goal.returns
returns c = gap_law
