-- The numbers of the terms before the loop's are added.
use Rattle.av_dist.specs.Rows.{how_often, Adds}
use Rattle.av_dist.proofs.MemberStatistics.{of_terms}
use Rattle.av_dist.proofs.terms.row_of.Given as goal

abbrev pub invariant-loop-t : goal.invariant-loop-t
invariant-loop-t l = Adds (how_often (of_terms l.levels l.system l.eq l.size l.t)) l.initial.out l.out
