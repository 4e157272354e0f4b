-- The trees of the terms before the loop's.
use Rattle.std.proofs.Common.{◌≡◌}
use Rattle.av_sys.specs.Terms.{term_at}
use Rattle.av_count.specs.Counts.{capped}
use Rattle.av_count.specs.Choices.{sum_from}
use Rattle.av_count.specs.Members.{term_ways}
use Rattle.av_count.proofs.table.total.Given as goal

abbrev pub invariant-loop-t : goal.invariant-loop-t
invariant-loop-t l = l.sum ≡ capped (sum_from (λ t. term_ways l.layout.of.value l.size (term_at l.layout.of.value l.eq t)) 0 l.t)
