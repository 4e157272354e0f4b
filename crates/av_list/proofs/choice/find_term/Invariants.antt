-- The place is past the terms before this one.
use Rattle.std.proofs.Common.{◌≡◌, ◌+◌, ◌*◌, ◌-◌, ℕ}
use Rattle.av_sys.specs.Terms.{term_at}
use Rattle.av_count.specs.Counts.{capped}
use Rattle.av_count.specs.Choices.{sum_from}
use Rattle.av_count.specs.Members.{term_ways}
use Rattle.av_list.proofs.choice.find_term.Given as goal

abbrev pub invariant-loop-at : goal.invariant-loop-at
invariant-loop-at l = (F : ℕ) → l.factor ≡ capped F → l.left + F * sum_from (λ t. term_ways l.system l.size (term_at l.system l.equation t)) l.least (l.at - l.least) ≡ l.r
