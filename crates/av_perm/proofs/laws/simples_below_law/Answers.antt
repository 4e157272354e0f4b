-- The simple words of a class below a length: its levels from length 4 on, end to end.
use Rattle.av_perm.proofs.Gaps.{below_list, below_ascending}
use Rattle.av_perm.proofs.laws.simples_below_law.Goals as goal

pub returns : goal.returns
returns c basis g = record { listed = below_list basis g; ascending = below_ascending basis g }
