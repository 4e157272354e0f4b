-- No pair that was tried leaves a simple pattern.
use Rattle.std.proofs.Common.{ℕ, ◌<◌}
use Rattle.av_interval.specs.Laws.{PairLeavesSimple}
use Rattle.av_gap.proofs.smaller.without_two.Given as goal

-- neither does a pair whose first place is before `first`
abbrev pub invariant-loop-first : goal.invariant-loop-first
invariant-loop-first l = (k t : ℕ) → k < l.first → PairLeavesSimple l.word k t → ⊥

-- nor `first` with a place before `second`
abbrev pub invariant-loop-second : goal.invariant-loop-second
invariant-loop-second l = (t : ℕ) → t < l.second → PairLeavesSimple l.word l.first t → ⊥
