-- None of the words without a place gone through contains a word of each list.
use Rattle.std.proofs.Common.{ℕ, ◌<◌}
use Rattle.av_union.specs.Union.{InBoth}
use Rattle.av_union.specs.Gather.{without}
use Rattle.av_union.proofs.leaving_out.is_minimal.Given as goal

abbrev pub invariant-loop-place : goal.invariant-loop-place
invariant-loop-place l = (s : ℕ) → s < l.place → InBoth l.first l.second (without l.word s) → ⊥
